use Rattle.std.proofs.Common.{◌≡◌, ◌+◌, ◌++◌, length, ap, ◌∙◌, arith, rules}
use Rattle.std.proofs.lemmas.List.{length-append}
use Rattle.tape.specs.Kinds.{number_of}
use Rattle.tape.specs.Layout.{bytes_of}
use Rattle.tape.specs.Writing.{over}
use Rattle.tape.proofs.Buffers.{then_over}
use Rattle.tape.proofs.write.Cursor.put_record.Goals as goal

pub returns-clause-after : goal.returns-clause-after
returns-clause-after c =
    let b = c.args.self.now.buffer.now in
    let at = c.args.self.now.at in
    let kind = number_of c.args.kind in
    let fs = c.args.fields.now in
    let rest = c.args.rest.now in
    let len = 2 + length fs + length rest in
    let one = c.put.new.self in
    let two = c.put-2.new.self in
    let three = c.put-3.new.self in
    let four = c.put-4.new.self in
    let wide = ap length c.to_le_bytes.ensures in
    let wide' = ap length c.to_le_bytes-2.ensures in
    let sized : c.to_le_bytes.result ≡ bytes_of 2 len = search rules in
    let kinded : c.to_le_bytes-2.result ≡ bytes_of 2 kind = search rules in
    let first : one.buffer.now ≡ over b at (bytes_of 2 len) = c.put.ensures.after ∙ ap (over b at) sized in
    let second : two.buffer.now ≡ over b at (bytes_of 2 len ++ bytes_of 2 kind) =
    then_over b one.buffer.now two.buffer.now (bytes_of 2 len) (bytes_of 2 kind) at one.at first (omega (arith, wide, c.put.ensures.place))
    (c.put-2.ensures.after ∙ ap (over one.buffer.now one.at) kinded) (omega (arith, c.requires.room)) in
    let third : three.buffer.now ≡ over b at ((bytes_of 2 len ++ bytes_of 2 kind) ++ fs) =
    then_over b two.buffer.now three.buffer.now (bytes_of 2 len ++ bytes_of 2 kind) fs at two.at second
    (omega (arith, wide, wide', c.put.ensures.place, c.put-2.ensures.place)) c.put-3.ensures.after (omega (arith, c.requires.room)) in
    let same : len ≡ 2 + length (fs ++ rest) = omega (arith, length-append fs rest) in
    then_over b three.buffer.now four.buffer.now ((bytes_of 2 len ++ bytes_of 2 kind) ++ fs) rest at three.at third
    (omega (arith, wide, wide', c.put.ensures.place, c.put-2.ensures.place, c.put-3.ensures.place)) c.put-4.ensures.after (omega (arith, c.requires.room))
    ∙ ap (λ n. over b at (bytes_of 2 n ++ (bytes_of 2 kind ++ (fs ++ rest)))) same
