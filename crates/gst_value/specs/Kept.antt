-- A list to which members are put one by one, equal ones once.
use Rattle.std.specs.Prelude.{cond, List, [], ◌∷◌, ◌++◌}
use Rattle.std.specs.List.{list_any}
use Rattle.gst_value.specs.Common.{same}
use Rattle.gst_value.specs.declared.one.One.{One}

-- the list once each of the others was put behind it, if none before was equal
abbrev pub kept : List One → List One → List One
kept out [] = out
kept out (x ∷ xs) = kept (cond (list_any (λ o. same o x) out) out (out ++ x ∷ [])) xs
