use Rattle.std.proofs.Common.{◌+◌, length, arith}
use Rattle.tape.proofs.LaysOut.{lays_out_again}
use Rattle.tape.proofs.ReadsBack.{reads_back}
use Rattle.tape.proofs.Records.{enough}
use Rattle.tape.proofs.trips.round_trip.Goals as goal

pub returns : goal.returns
returns c = record {
  none_missed = λ tape more. enough (length tape + more) (length tape) tape 0 (omega arith) (omega arith);
  reads_back = reads_back;
  lays_out_again = lays_out_again;
}
