use Rattle.std.proofs.Common.{rules, sym, refl, subst}
use Rattle.records.specs.Bounds.{raised_by, ClockWithin}
use Rattle.records.proofs.Bounded.{set_within}
use Rattle.records.proofs.releasing.learn_number.Goals as goal

pub returns-clause-kept : goal.returns-clause-kept
unfolding raised_by
returns-clause-kept c = record {
  same = refl;
  within = λ b w. ((w.0.0, subst (ClockWithin b) (sym c.put_entry.ensures) (set_within b _ _ _ (search rules) w.0.1), w.0.2), w.1);
}
