-- What stands behind the last SEGMENT or FLUSH_STOP of a list, and its bytes.
use Rattle.std.specs.Prelude.{ℕ, Bool, false, ◌||◌, if◌then◌else◌, List, [], ◌∷◌, length, drop}
use Rattle.flow_model.specs.Item.{Item, is_segment, is_flush_stop, is_buffer}
use Rattle.flow_model.specs.Sticky.{latest, since_flush_stop}
use Rattle.flow_model.specs.Call.{items}
use Rattle.flow_model.specs.Rule.{Fed}
use Rattle.flow_model.specs.Looking.{bytes_of, end_of}

-- a SEGMENT and a FLUSH_STOP begin a part
abbrev pub begins_part : Item → Bool
begins_part x = is_segment x || is_flush_stop x

abbrev pub has_beginning : List Item → Bool
has_beginning [] = false
has_beginning (x ∷ xs) = begins_part x || has_beginning xs

-- what stands behind the last beginning of a part, or all where there is none
abbrev pub last_part : List Item → List Item
last_part [] = []
last_part (x ∷ xs) = if has_beginning xs then last_part xs else (if begins_part x then xs else x ∷ xs)

-- the bytes of the last part
abbrev pub part_bytes : List Item → List ℕ
part_bytes h = bytes_of (last_part h)

-- the bytes of the last part that were given and not yet put out
abbrev pub held_bytes : Fed → List ℕ
held_bytes fed = drop (length (part_bytes fed.out)) (part_bytes (items fed.given))

-- the time of the end of what was put out since the last FLUSH_STOP: that of the last buffer, and 0 without one
abbrev pub end_put_out : Fed → ℕ
end_put_out fed = end_of (latest is_buffer (since_flush_stop fed.out))
