use Rattle.std.proofs.Common.{◌≡◌, ◌+◌, ◌++◌, ◌∷◌, [], ◌/◌, ℕ, List, length, map, get_or, take, refl, ap, sym, ◌∙◌, append_assoc, arith, rules}
use Rattle.std.proofs.lemmas.Int.{to_z-of_z}
use Rattle.std.proofs.lemmas.List.{take_all, length-set}
use Rattle.std.specs.List.{flat_map}
use Rattle.std.specs.Simd.{first_chunks}
use Rattle.audio_info.specs.Packing.{sample_bytes, sample_value}
use Rattle.audio_info.specs.Segments.{mulaw_code}
use Rattle.audio_info.specs.declared.sample.Sample.TheVariants.{S16LE as Linear, MuLaw}
use Rattle.el_law.proofs.Grouped.{coded, bytes_of, grouped_whole}
use Rattle.el_law.proofs.Pieces.{made_more, set_behind, lent_whole}
use Rattle.el_law.proofs.recode.mulaw_encoded.Goals as goal

pub loop-group-preserved : goal.loop-group-preserved
loop-group-preserved c =
    let items = c.loop-group.codes.items in
    let new = c.put_sixteen.new.codes in
    let lent : c.as_mut_slice.result.now ≡ items = c.as_mut_slice.ensures.value in
    let same : length new ≡ length items = c.put_sixteen.ensures.size ∙ ap length lent in
    let whole = lent_whole c.loop-group.codes.len items new c.loop-group.codes.ok.0 same in
    let samples = first_chunks 2 16 (get_or c.as_chunks.result.0.now c.loop-group.group-index []) in
    record {
      place = omega (arith, c.loop-group.invariant.place);
      size = ap length whole ∙ same ∙ c.loop-group.invariant.size;
      done = made_more (λ g. flat_map coded (first_chunks 2 16 g)) c.as_chunks.result.0.now c.loop-group.group-index [] (take c.loop-group.place items) _ c.loop-group-test.true c.loop-group.invariant.done
          (ap (take (c.loop-group.place + 16)) whole ∙ c.put_sixteen.ensures.put ∙ ap (λ (xs : List ℕ). take c.loop-group.place xs ++ map (λ s. mulaw_code (sample_value Linear s)) samples) lent ∙ ap (λ (t : List ℕ). take c.loop-group.place items ++ t) (bytes_of samples));
    }

pub loop-sample-preserved : goal.loop-sample-preserved
loop-sample-preserved c =
    let samples = c.as_chunks-2.result.0.now in
    let i = c.loop-sample.sample-index in
    let sample = get_or samples i [] in
    let groups = flat_map (λ g. flat_map coded (first_chunks 2 16 g)) (first_chunks 32 (length c.args.bytes.now / 32) c.args.bytes.now) in
    let before = flat_map coded (take i samples) in
    let value : sample_bytes MuLaw c.get.result ≡ c.encode.result ∷ [] = search (rules, to_z-of_z) in
    let byte : c.encode.result ∷ [] ≡ coded sample = sym value ∙ ap (sample_bytes MuLaw) c.get.ensures.value in
    record {
      place = omega (arith, c.loop-sample.invariant.place);
      size = length-set c.loop-sample.codes.items c.loop-sample.place c.encode.result ∙ c.loop-sample.invariant.size;
      done = set_behind c.loop-sample.place c.loop-sample.codes.items c.encode.result (omega (arith, c.loop-sample.invariant.place, c.loop-sample.invariant.size, c.loop-sample-test.true, c.as_chunks-2.ensures.front_len, c.as_chunks.ensures.back_len))
          ∙ ap (λ (t : List ℕ). t ++ c.encode.result ∷ []) c.loop-sample.invariant.done
          ∙ ap (λ (t : List ℕ). (groups ++ before) ++ t) byte
          ∙ append_assoc groups before (coded sample)
          ∙ ap (λ (t : List ℕ). groups ++ t) (made_more coded samples i [] before (before ++ coded sample) c.loop-sample-test.true refl refl);
    }

pub returns : goal.returns
returns c =
    let all : take c.loop-sample.place c.loop-sample.codes.items ≡ c.loop-sample.codes.items = take_all c.loop-sample.place c.loop-sample.codes.items (omega (arith, c.loop-sample.invariant.place, c.loop-sample.invariant.size, c.loop-sample-test.false, c.as_chunks-2.ensures.front_len, c.as_chunks.ensures.back_len)) in
    grouped_whole c.args.bytes.now c.loop-sample.codes.items c.loop-sample.sample-index c.as_chunks.result.1.now c.as_chunks-2.result.0.now c.as_chunks.ensures.back c.as_chunks-2.ensures.front c.loop-sample-test.false (sym all ∙ c.loop-sample.invariant.done)
