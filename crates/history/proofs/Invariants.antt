-- All invariants, of every reachable state with its history.
use Rattle.std.proofs.Common.{ℕ, List, [], refl, inl}
use Rattle.std.proofs.lemmas.Bool.{false≢true}
use Rattle.history.specs.Protocol.{Placement, Unbegun, State, fresh, Event, Reachable, start, then}
use Rattle.history.proofs.Basics.{not_committed}
use Rattle.history.proofs.Locks.{locks, locks_fresh}
use Rattle.history.proofs.Numbers.{numbers, numbers_fresh}
use Rattle.history.proofs.Clocks.{decisions_stand, clocks}
use Rattle.history.proofs.Chains.{chains}
use Rattle.history.proofs.Snapshots.{Ground, Snapshots, snapshots}
use Rattle.history.proofs.Stamps.{Stamps, stamps}
use Rattle.history.proofs.Scripts.{Scripts, scripts}

module _ (holds : Placement) (modulus : ℕ) where
  abbrev pub Invariants : List Event → State → Type 0
  Invariants h s = record {
    ground : Ground holds modulus h s;
    snapshots : Snapshots holds modulus h s;
    scripts : Scripts holds modulus h s;
    stamps : Stamps holds modulus s;
  }

  fresh_ground : Ground holds modulus [] fresh
  fresh_ground = record {
    locks = locks_fresh holds modulus;
    numbers = numbers_fresh holds modulus;
    decisions_ordered = record {
      decided_committed = λ u m. absurd m;
      committed_decided = λ u e. absurd (not_committed Unbegun Unbegun refl refl e);
      decided_once = λ u m. m;
      begun_positive = λ t e. absurd (false≢true e);
    };
    clocks = record {
      written_placed = λ t k e. absurd (false≢true e);
      applied_write_node = λ t p e. absurd (false≢true e);
      write_slot = λ u q k e. absurd (not_committed Unbegun Unbegun refl refl e);
      below_stamp = λ u p k q e. absurd (not_committed Unbegun Unbegun refl refl e);
      read_settled = λ t p e. absurd (false≢true e);
      engaged_votes = λ t u p k e. absurd (false≢true e);
      conflict_ordered = λ t u k b. absurd b;
    };
    chains = record {
      lists_applied = λ p k h. refl;
      earlier_applied = λ x u p k b. absurd b;
      note_current = λ t p k e. absurd (false≢true e);
      lists_history = λ p k h. refl;
      history_committed = λ u p m. absurd m;
      history_applied = λ u p m. absurd m;
      applied_history = λ u p e. absurd (false≢true e);
    };
  }

  fresh_invariants : Invariants [] fresh
  fresh_invariants = record {
    ground = fresh_ground;
    snapshots = record {
      within = λ t p u e. absurd (false≢true e);
      snapshot = λ t k p a r. absurd r;
      note_answers = λ t k p a r. absurd r;
      note_read = λ t k e. absurd (false≢true e);
      read_got = λ t p e. absurd (false≢true e);
      reader_begun = λ t k p a r. absurd r;
    };
    scripts = record {
      after_script = λ t k tb. refl;
      script_answers = λ t tb f. refl;
      script_wrote = λ t k. refl;
      read_touched = λ t k e f. absurd (false≢true f);
      unbegun_empty = λ t e. refl;
      offered_update = λ t e. absurd (false≢true e);
    };
    stamps = record {
      clock_stamped = λ t q. inl refl;
      seen_stamped = λ p q. inl refl;
      vote_stamped = λ t q. inl refl;
      commit_stamped = λ u q. inl refl;
      unread_zero = λ t q f. refl;
      read_held = λ t q e. absurd (false≢true e);
    };
  }

  pub invariants : {h : List Event} {s : State} → Reachable holds modulus h s → Invariants h s
  invariants start = fresh_invariants
  invariants (then {h = h} {s = s} e r ok) =
      let i = invariants r in
      let g = i.ground in
      record {
        ground = record {
          locks = locks holds modulus s e g.locks ok;
          numbers = numbers holds modulus s e g.locks g.numbers ok;
          decisions_ordered = decisions_stand holds modulus h s e g.locks g.decisions_ordered ok;
          clocks = clocks holds modulus h s e g.locks g.numbers g.decisions_ordered g.clocks ok;
          chains = chains holds modulus h s e g.locks g.decisions_ordered g.chains ok;
        };
        snapshots = snapshots holds modulus h s e g i.snapshots ok;
        scripts = scripts holds modulus h s e i.scripts ok;
        stamps = stamps holds modulus s e g.locks i.stamps ok;
      }
