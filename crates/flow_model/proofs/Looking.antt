-- What looking back over a list sees behind one more item.
use Rattle.std.proofs.Common.{◌≡◌, List, [], ◌∷◌, ◌++◌, sym, ap, ◌∙◌, append_assoc, append-nil}
use Rattle.flow_model.specs.Item.{Item, body_of}
use Rattle.flow_model.specs.Looking.{bytes_of}

pub bytes_push : (h : List Item) (x : Item) → bytes_of (h ++ x ∷ []) ≡ bytes_of h ++ body_of x
bytes_push [] x = append-nil (body_of x)
bytes_push (y ∷ ys) x = ap (λ bytes. body_of y ++ bytes) (bytes_push ys x) ∙ sym (append_assoc (body_of y) (bytes_of ys) (body_of x))
