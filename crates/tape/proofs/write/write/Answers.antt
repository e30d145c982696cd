use Rattle.std.proofs.Common.{map, length, take, sym, ap, ◌∙◌, arith}
use Rattle.std.proofs.lemmas.Bool.{leb-true}
use Rattle.calls.specs.Requests.{request}
use Rattle.tape.specs.Layout.{tape_of}
use Rattle.tape.specs.Reading.{read_tape}
use Rattle.tape.proofs.Buffers.{front_over}
use Rattle.tape.proofs.ReadsBack.{reads_back}
use Rattle.tape.proofs.write.write.Goals as goal

pub returns-clause-reads_back : goal.returns-clause-reads_back
returns-clause-reads_back c =
    let rs = map request c.args.calls.now in
    let tape = tape_of rs in
    let short = leb-true (length tape) c.min.result (sym c.if-not-fits.ensures) in
    ap (λ m. read_tape (take m c.put_calls.new.buffer)) c.put_calls.ensures.value
    ∙ ap (λ bytes. read_tape (take (length tape) bytes)) c.put_calls.ensures.after
    ∙ ap read_tape (front_over c.args.buffer.now tape)
    ∙ reads_back rs c.put_calls.ensures.fit (sym c.if-not-are_writable.ensures) (omega (arith, short, c.min.ensures))
