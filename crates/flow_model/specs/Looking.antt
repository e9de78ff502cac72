-- What is seen by looking back over a list: its bytes, those since the last FLUSH_STOP, and whether a SEGMENT stands since.
use Rattle.std.specs.Prelude.{ℕ, Bool, List, [], ◌∷◌, ◌++◌, length, ◌+◌, unwrap_or}
use Rattle.flow_model.specs.Item.{Item, body_of, Buf}
use Rattle.flow_model.specs.Sticky.{since_flush_stop, in_force}
use Rattle.flow_model.specs.Rule.{Fed}
use Rattle.std.specs.List.{sum_by}
use Rattle.gst_item.specs.Item.{has_item}

-- the bytes of items, one body behind the other
abbrev pub bytes_of : List Item → List ℕ
bytes_of [] = []
bytes_of (x ∷ xs) = body_of x ++ bytes_of xs

-- how many bytes a list has since its last FLUSH_STOP
abbrev pub bytes_got : List Item → ℕ
bytes_got h = length (bytes_of (since_flush_stop h))

-- whether a SEGMENT was put out since the last FLUSH_STOP
abbrev pub has_opened : Fed → Bool
has_opened fed = has_item (in_force fed.out).segment

-- the bytes that a list has since its last FLUSH_STOP
abbrev pub bytes_since_flush : List Item → ℕ
bytes_since_flush h = sum_by (λ x. length (body_of x)) (since_flush_stop h)

-- the time of the end of the last buffer that is owed, and 0 without one
abbrev pub end_of : List Item → ℕ
end_of (Buf b ∷ xs) = unwrap_or b.pts 0 + unwrap_or b.duration 0
end_of _ = 0
