-- Texts that are the same, quiet or not.
use Rattle.std.proofs.Common.{◌≡◌, ◌≢◌, ◌⊎◌, ◌==◌, ℕ, Bool, true, false, List, [], ◌++◌, if◌then◌else◌, refl, sym, ap, ◌∙◌, subst, inl, inr, eqb}
use Rattle.std.proofs.lemmas.Bool.Decides.{eqb_tells}
use Rattle.world_core.specs.declared.ended.WorldEnd.{WorldEnd}
use Rattle.run_report.specs.CountLines.{count_lines}
use Rattle.run_report.specs.FaultLines.{cause_lines}
use Rattle.run_report.specs.ReportText.{report_lines, status_line}
use Rattle.run_report.specs.declared.report.Report.{Report}

-- where a run did not begin, nothing is left out
pub nothing_left_out : (status : ℕ) (quiet other : Bool) (report : Report) → report.entries ≡ [] → report.pads ≡ [] → report.sinks ≡ [] → report_lines status quiet report ≡ report_lines status other report
nothing_left_out status quiet other report entries pads sinks =
    ap (λ (part : List ℕ). if status == 13 then status_line 13 report.fault else status_line status report.fault ++ cause_lines status report.fault ++ part) (none quiet ∙ sym (none other))
  where
    no_counts : count_lines report ≡ []
    no_counts = rw (entries, pads, sinks) refl

    none : (q : Bool) → (if q then [] else count_lines report) ≡ []
    none true = refl
    none false = no_counts

-- so it is where memory was wanting, and the same as for the end of the run where it was not
pub told_the_same : (reported : ℕ) (report : Report) (end : WorldEnd) (quiet other : Bool) → (reported ≢ 13 → record { status = reported; report = report } ≡ end) → report_lines end.status quiet end.report ≡ report_lines end.status other end.report → report_lines reported quiet report ≡ report_lines reported other report
told_the_same reported report end quiet other is same = by (eqb_tells reported 13)
  where
    by : ((eqb reported 13 ≡ true) × (reported ≡ 13)) ⊎ ((eqb reported 13 ≡ false) × (reported ≡ 13 → ⊥)) → report_lines reported quiet report ≡ report_lines reported other report
    by (inl t) = rw t.0 refl
    by (inr f) =
        let one = is f.1 in
        subst (λ (e : WorldEnd). report_lines e.status quiet e.report ≡ report_lines e.status other e.report) (sym one) same
