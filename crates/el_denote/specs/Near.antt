-- An interleave whose items come out of order: a pad that has neither CAPS nor EOS in a section is given an EOS that its list has not.
use Rattle.std.specs.Prelude.{◌≡◌, ℕ, Bool, true, false, List, [], ◌∷◌, ◌++◌, Option, None, Some, is_some, if◌then◌else◌, nat_le}
use Rattle.gst_time.specs.declared.time.TheConstants.{LIMIT}
use Rattle.flow_model.specs.declared.fault.ElementFault.{ElementFault}
use Rattle.flow_model.specs.declared.fault.ElementFault.TheVariants.{TooLong as Passing}
use Rattle.flow_model.specs.Item.{is_stream_start, is_caps, is_tag}
use Rattle.flow_model.specs.Sticky.{latest}
use Rattle.flow_model.specs.Section.{counted}
use Rattle.flow_model.specs.Looking.{bytes_of}
use Rattle.flow_model.specs.Call.{Call, items}
use Rattle.flow_model.specs.Feeding.{has_eos}
use Rattle.flow_model.specs.SinkPads.{flush_stops_given}
use Rattle.el_mix.specs.Mixed.{has}
use Rattle.el_mix.specs.Mixes.{is_start, eos_if}
use Rattle.el_mix.specs.Reopened.{reopened}

-- Such a pad's mark tells whether it had SEGMENT; other pads have none.
abbrev pub Mark : Type 0
Mark = Option Bool

-- A pad was given the same in truth, but for that EOS.
pub record Near (j : ℕ) (mark : Mark) (took given : List Call) : Type 0 where
  pub took_in : flush_stops_given took ≡ j
  pub given_in : flush_stops_given given ≡ j
  pub eos : has_eos took ≡ (if is_some mark then true else has_eos given)
  pub none : is_some mark ≡ true → has_eos given ≡ false
  pub list : reopened j (items took) ≡ reopened j (items given) ++ eos_if (is_some mark)
  pub bare : is_some mark ≡ true → bytes_of (reopened j (items given)) ≡ []
  pub starts : (b : Bool) → mark ≡ Some b → has is_start (reopened j (items given)) ≡ b
  pub stream_start : latest is_stream_start (counted (items took)) ≡ latest is_stream_start (counted (items given))
  pub caps : latest is_caps (counted (items took)) ≡ latest is_caps (counted (items given))
  pub tag : latest is_tag (counted (items took)) ≡ latest is_tag (counted (items given))

-- The pads that had their turn have marks. The next one has started, or not, and those behind it have not.
pub data NearEach (j : ℕ) : List Mark → Bool → List (List Call) → List (List Call) → Type 0 where
  done : {begun : Bool} → NearEach j [] begun [] []
  later : {begun : Bool} {took given : List Call} {tooks givens : List (List Call)} → Near j None took given
      → (has_eos given ≡ false → has is_start (reopened j (items given)) ≡ begun) → NearEach j [] false tooks givens → NearEach j [] begun (took ∷ tooks) (given ∷ givens)
  marked : {mark : Mark} {marks : List Mark} {begun : Bool} {took given : List Call} {tooks givens : List (List Call)} → Near j mark took given
      → NearEach j marks begun tooks givens → NearEach j (mark ∷ marks) begun (took ∷ tooks) (given ∷ givens)

-- whether a pad is marked, and whether each marked one had SEGMENT
abbrev pub both : Bool → Mark → Mark
both a None = Some a
both a (Some b) = Some (if a then b else false)

abbrev pub gaps_of : List Mark → Mark
gaps_of [] = None
gaps_of (None ∷ marks) = gaps_of marks
gaps_of (Some b ∷ marks) = both b (gaps_of marks)

abbrev pub with_gap : Mark → Bool → Mark
with_gap None b = Some b
with_gap (Some a) b = Some (if a then b else false)

-- what was put out before any buffers, where a pad had neither CAPS nor EOS: the first three items, and nothing where a pad has not started
abbrev pub owed_count : ℕ → Mark → ℕ
owed_count n None = n
owed_count n (Some true) = if nat_le 3 n then 3 else 0
owed_count n (Some false) = 0

-- no buffers went out there
abbrev pub restored : Mark → ElementFault → ElementFault
restored (Some b) (Passing more left) = Passing 0 LIMIT
restored gaps fault = fault
