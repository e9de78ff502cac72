-- An entry of a file of which nothing was said changes no file.
use Rattle.std.proofs.Common.{◌≡◌, [], ◌∷◌, ◌++◌, ap, sym, ◌∙◌, get_or, length, arith}
use Rattle.gst_outside.specs.Table.{new_file, file_at, has_file}
use Rattle.gst_outside.proofs.Entries.{same_found, same_none, found_file, found_there, pushed_file, pushed_there, pushed_self, pushed_found}
use Rattle.gst_outside.proofs.table.entry.Goals as goal

pub returns-in-Some-clause-found : goal.returns-in-Some-clause-found
returns-in-Some-clause-found c =
    found_file c.args.files.now.items c.args.location.now c.in-Some.index (new_file c.args.location.now)
    (same_found c.as_slice.result.now c.args.files.now.items c.args.location.now c.in-Some.index (sym c.in-Some.ensures) c.as_slice.ensures.value)

pub returns-in-Some-clause-there : goal.returns-in-Some-clause-there
returns-in-Some-clause-there c =
    found_there c.args.files.now.items c.args.location.now c.in-Some.index (new_file c.args.location.now)
    (same_found c.as_slice.result.now c.args.files.now.items c.args.location.now c.in-Some.index (sym c.in-Some.ensures) c.as_slice.ensures.value)

pub returns-clause-stays : goal.returns-clause-stays
returns-clause-stays c =
    let new : c.push.new.self.items ≡ c.args.files.now.items ++ new_file c.args.location.now ∷ [] = c.in_ok-push.ensures.items ∙ ap (λ x. c.args.files.now.items ++ x ∷ []) c.in_ok-new.ensures in
    record {
      file = λ l. ap (λ fs. file_at fs l) new ∙ pushed_file c.args.files.now.items c.args.location.now l;
      kept = λ l h. ap (λ fs. has_file fs l) new ∙ pushed_there c.args.files.now.items (new_file c.args.location.now) l h;
    }

pub returns-clause-there : goal.returns-clause-there
returns-clause-there c =
    let new : c.push.new.self.items ≡ c.args.files.now.items ++ new_file c.args.location.now ∷ [] = c.in_ok-push.ensures.items ∙ ap (λ x. c.args.files.now.items ++ x ∷ []) c.in_ok-new.ensures in
    ap (λ fs. has_file fs c.args.location.now) new ∙ pushed_self c.args.files.now.items c.args.location.now

pub returns-clause-found : goal.returns-clause-found
returns-clause-found c =
    let new : c.push.new.self.items ≡ c.args.files.now.items ++ new_file c.args.location.now ∷ [] = c.in_ok-push.ensures.items ∙ ap (λ x. c.args.files.now.items ++ x ∷ []) c.in_ok-new.ensures in
    let none = same_none c.as_slice.result.now c.args.files.now.items c.args.location.now (sym c.in_default.ensures) c.as_slice.ensures.value in
    let last : c.len-index.result ≡ length c.args.files.now.items = omega arith in
    ap (λ fs. get_or fs c.len-index.result (new_file c.args.location.now)) new
    ∙ pushed_found c.args.files.now.items c.args.location.now c.len-index.result (new_file c.args.location.now) none last
    ∙ ap (λ fs. file_at fs c.args.location.now) (sym new)
