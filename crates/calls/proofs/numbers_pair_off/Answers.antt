use Rattle.calls.proofs.Pairing.{numbers_pair_off}
use Rattle.calls.proofs.numbers_pair_off.Goals as goal

pub returns : goal.returns
returns c = numbers_pair_off
