use Rattle.std.proofs.Common.{◌≡◌, ap, true, false}
use Rattle.net_groups.specs.Joined.{CannotJoin}
use Rattle.edit_acts.specs.Linking.{opening_of}
use Rattle.edit_acts.proofs.Answered.{linked_not, linked_runs}
use Rattle.edit_acts.proofs.Linked.{is_joined}
use Rattle.edit_acts.proofs.Files.{files_same, opened_files}
use Rattle.edit_acts.proofs.linking.link.Goals as goal

pub returns-then-not-join_reserved-clause-run : goal.returns-then-not-join_reserved-clause-run
returns-then-not-join_reserved-clause-run g c = λ graph m tells source sink run at.
    let stays : c.join_reserved.result ≡ false = cc in
    absurd (is_joined graph m c.args.tasks.now.items tells run source sink c.args.pad c.args.to (opening_of c.args.room) at (c.join_reserved.ensures.none stays).0)

pub returns-clause-none : goal.returns-clause-none
returns-clause-none g c =
    let done : c.join_reserved.result ≡ true = cc in
    linked_not c.args.tasks.now.items c.join_reserved.new.tasks.items c.link_opened.new.tasks.items c.args.pad c.args.to (opening_of c.args.room) (c.join_reserved.ensures.joined done)
    (c.link_opened.new.tasks ≡ c.join_reserved.new.tasks) (CannotJoin c.args.tasks.now.items c.args.pad c.args.to.element × (c.link_opened.new.tasks ≡ c.args.tasks.now)) c.link_opened.result c.link_opened.ensures.none

pub returns-clause-run : goal.returns-clause-run
returns-clause-run g c =
    let done : c.join_reserved.result ≡ true = cc in
    linked_runs c.args.tasks.now.items c.join_reserved.new.tasks.items c.link_opened.new.tasks.items c.args.pad c.args.to (opening_of c.args.room) (c.join_reserved.ensures.joined done)
    (c.link_opened.new.tasks ≡ c.join_reserved.new.tasks) (c.join_reserved.ensures.stands done) c.link_opened.result c.link_opened.ensures.linked c.link_opened.ensures.none c.link_opened.ensures.stands

pub returns-clause-ready : goal.returns-clause-ready
returns-clause-ready g c = λ tells ready.
    let done : c.join_reserved.result ≡ true = cc in
    c.link_opened.ensures.ready tells (c.join_reserved.ensures.ready done tells ready)

pub returns-then-not-join_reserved-clause-files : goal.returns-then-not-join_reserved-clause-files
returns-then-not-join_reserved-clause-files g c =
    let stays : c.join_reserved.result ≡ false = cc in
    files_same c.args.tasks.now.items c.join_reserved.new.tasks.items (ap (λ (v : _). v.items) (c.join_reserved.ensures.none stays).1)

pub returns-clause-files : goal.returns-clause-files
returns-clause-files g c =
    let done : c.join_reserved.result ≡ true = cc in
    opened_files c.args.tasks.now c.join_reserved.new.tasks c.link_opened.new.tasks c.args.pad c.args.to (opening_of c.args.room) (c.join_reserved.ensures.joined done)
    c.link_opened.result c.link_opened.ensures.linked c.link_opened.ensures.none c.link_opened.ensures.faults
