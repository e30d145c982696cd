use Rattle.std.proofs.Common.{◌≡◌, sym, refl, subst}
use Rattle.calls.specs.declared.answer.Answer.TheVariants.{Yes, NoPlace}
use Rattle.store.specs.Model.{fresh}
use Rattle.rules.specs.declared.records.Transaction.{Transaction}
use Rattle.rules.specs.World.{Outcome, is_write_node}
use Rattle.rules.specs.Changes.{has_no}
use Rattle.rules.specs.Voting.{overtaken_key, vote, yes}
use Rattle.catalogue.specs.Tables.{world_of}
use Rattle.catalogue.specs.Replacing.{TransactionReplaced}
use Rattle.catalogue.proofs.Outcomes.{voted_yes, voted_no_place}
use Rattle.catalogue.proofs.catalogue.Catalogue.vote.Goals as goal

pub returns-in-Ok-clause-outcome : goal.returns-in-Ok-clause-outcome
returns-in-Ok-clause-outcome g c =
    let self = c.args.self.now in
    let free = g.S.VersionStore.free self.store in
    let m = g.S.VersionStore.meaning self.store in
    let after = g.S.VersionStore.meaning c.set_places.new.store in
    let placed = sym c.placement-placement.ensures in
    let told = c.in-Ok.ensures in
    let x = c.record-x.result.now in
    let is = c.record-x.ensures.value in
    let voted = c.vote_yes-number.new.self in
    let number = c.vote_yes-number.result in
    let kept = subst (λ (z : Transaction). ◌≡◌ {A = Outcome} (Yes number, world_of voted fresh) (yes (world_of self.table fresh) c.args.t c.args.p z fresh (is_write_node (world_of self.table fresh) z c.args.p))) (sym is) c.vote_yes-number.ensures in
    subst (λ (z : Transaction). ◌≡◌ {A = Outcome} (Yes number, world_of voted after) (vote free (world_of self.table m) c.args.t c.args.p z (overtaken_key (world_of self.table m) z c.args.p))) is
    (voted_yes free self.table voted m after c.args.t c.args.p x (c.in_default.ensures (world_of self.table m) placed refl)
    c.in-Ok.field-0 number (told.answer (world_of self.table fresh) placed) (told.after (world_of self.table fresh) placed) kept)

pub returns-in-Err-clause-outcome : goal.returns-in-Err-clause-outcome
returns-in-Err-clause-outcome g c =
    let self = c.args.self.now in
    let free = g.S.VersionStore.free self.store in
    let m = g.S.VersionStore.meaning self.store in
    let after = g.S.VersionStore.meaning c.set_places.new.store in
    let placed = sym c.placement-placement.ensures in
    let told = c.in-Err.ensures in
    let x = c.record-x.result.now in
    let is = c.record-x.ensures.value in
    let voted = c.vote_no-in-Err.new.self in
    let kept = subst (λ (z : Transaction). TransactionReplaced self.table voted c.args.t (has_no c.args.p z)) (sym is) c.vote_no-in-Err.ensures in
    subst (λ (z : Transaction). ◌≡◌ {A = Outcome} (NoPlace c.in-Err.key, world_of voted after) (vote free (world_of self.table m) c.args.t c.args.p z (overtaken_key (world_of self.table m) z c.args.p))) is
    (voted_no_place free self.table voted m after c.args.t c.args.p x (c.in_default.ensures (world_of self.table m) placed refl)
    c.in-Err.key (told.answer (world_of self.table fresh) placed) (told.after (world_of self.table fresh) placed) kept.transactions kept.nodes kept.placement)
