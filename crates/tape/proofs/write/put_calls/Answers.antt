use Rattle.std.proofs.Common.{map, length, ◌∙◌}
use Rattle.calls.specs.Requests.{request}
use Rattle.tape.specs.Layout.{tape_of}
use Rattle.tape.proofs.Requests.{write_more, all_fit_more}
use Rattle.tape.proofs.write.put_calls.Goals as goal

pub loop-call-preserved : goal.loop-call-preserved
loop-call-preserved c =
    let calls = c.args.calls.now in
    let i = c.loop-call.call-index in
    let inv = c.loop-call.invariant in
    let before = c.loop-call.cursor in
    let after = c.put_call.new.self in
    let more =
    write_more calls i _ c.args.buffer.now before.buffer.now after.buffer.now before.at after.at (length (tape_of (map request calls)))
    c.loop-call-test.true c.requires.room inv.0 inv.1 inv.2 c.put_call.ensures.after c.put_call.ensures.place in (
      more.0,
      more.1,
      more.2,
      all_fit_more calls i _ c.loop-call-test.true inv.3 c.put_call.ensures.fit,
      c.put_call.ensures.same_buffer ∙ inv.4,
      more.3,
    )
