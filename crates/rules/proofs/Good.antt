-- Every call keeps the invariant and refines the protocol; so the promises are kept.
use Rattle.calls.specs.Requests.{Request, make, begin, read, write, offer, prepare, decide, cancel, learn, apply, finish}
use Rattle.store.specs.Model.{FreeRule}
use Rattle.rules.specs.World.{World}
use Rattle.rules.specs.Promises.{PromisesKept}
use Rattle.rules.proofs.Invariant.{Invariant, GoodStep}
use Rattle.rules.proofs.Start.{start}
use Rattle.rules.proofs.Begins.{begin_good}
use Rattle.rules.proofs.Writes.{make_good, write_good, offer_good, cancel_good, finish_good}
use Rattle.rules.proofs.Reading.{read_good}
use Rattle.rules.proofs.Prepares.{prepare_good}
use Rattle.rules.proofs.Decides.{decide_good}
use Rattle.rules.proofs.Learns.{learn_good}
use Rattle.rules.proofs.Applies.{apply_good}
use Rattle.rules.proofs.Promises as promises

pub good : (free : FreeRule) (w : World) (request : Request) → Invariant w → GoodStep free w request
good free w (make nodes keys placement) inv = make_good free w nodes keys placement inv
good free w (begin mode) inv = begin_good free w mode inv
good free w (read t k p) inv = read_good free w t k p inv
good free w (write t k value) inv = write_good free w t k value inv
good free w (offer t) inv = offer_good free w t inv
good free w (prepare t p) inv = prepare_good free w t p inv
good free w (decide t) inv = decide_good free w t inv
good free w (cancel t) inv = cancel_good free w t inv
good free w (learn t p) inv = learn_good free w t p inv
good free w (apply p) inv = apply_good free w p inv
good free w (finish t) inv = finish_good free w t inv

pub promises_kept : PromisesKept
promises_kept = promises.promises_kept good start
