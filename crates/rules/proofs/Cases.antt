-- The cases that were worked out by hand: each side computes.
use Rattle.std.proofs.Common.{refl}
use Rattle.clock.specs.Clocks.{passes}
use Rattle.clock.specs.Numbers.{first_leaving}
use Rattle.store.specs.Batch.{asked, first_refused}
use Rattle.rules.specs.World.{written_at, is_write_node}
use Rattle.rules.specs.Reading.{clock_after, newest_passing}
use Rattle.rules.specs.Voting.{busy, overtaken_key}
use Rattle.rules.specs.Deciding.{polled_byte, all_voted, stamped}
use Rattle.rules.specs.Applying.{least_waiting, put_all}
use Rattle.rules.specs.Steps.{answers_of, world_after}
use Rattle.rules.specs.Cases.{CasesHold}

pub cases_hold : CasesHold
unfolding passes first_leaving asked first_refused written_at is_write_node clock_after newest_passing busy overtaken_key polled_byte all_voted stamped least_waiting put_all answers_of world_after
cases_hold = (refl, (refl, (refl, (refl, (refl, (refl, ((refl, refl, tt), ((refl, refl, (refl, (refl, tt))), ((refl, refl, (refl, (refl, (refl, tt)))), tt)))))))))
