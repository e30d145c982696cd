use Rattle.std.proofs.Common.{List, map, get_or, take, refl, ap, ◌∙◌, subst}
use Rattle.std.proofs.lemmas.List.{take_all}
use Rattle.calls.specs.declared.call.Call.{Call}
use Rattle.calls.specs.Requests.{Request, request}
use Rattle.store.specs.Model.{FreeRule}
use Rattle.rules.specs.Steps.{step}
use Rattle.catalogue.specs.Tables.{world_of}
use Rattle.catalogue.specs.Runs.{Performed}
use Rattle.catalogue.proofs.Performs.{performed_none, performed_more, no_call, taken_more, ran, told}
use Rattle.catalogue.proofs.catalogue.Catalogue.perform_all.Goals as goal

pub loop-call-init : goal.loop-call-init
loop-call-init g c =
    let s = g.S.VersionStore in
    (performed_none (s.free c.args.self.now.store) (world_of c.args.self.now.table (s.meaning c.args.self.now.store)) c.new-answers.result.items c.new-answers.ensures.items, refl)

pub loop-call-preserved : goal.loop-call-preserved
loop-call-preserved g c =
    let s = g.S.VersionStore in
    let start = c.args.self.now in
    let now = c.loop-call.self in
    let after = c.perform-answer.new.self in
    let free = s.free start.store in
    let w = world_of start.table (s.meaning start.store) in
    let v = world_of now.table (s.meaning now.store) in
    let calls = c.args.calls.now in
    let i = c.loop-call.call-index in
    let r : Request = request (get_or calls i no_call) in
    let stepped = c.perform-answer.ensures.step ∙ ap (λ (f : FreeRule). step f v r) c.loop-call.invariant.1 in
    let more = performed_more free w v (world_of after.table (s.meaning after.store)) (map request (take i calls)) c.loop-call.answers.items c.loop-call.invariant.0 r c.perform-answer.result c.push.new.self.items c.in_ok-push.ensures.items stepped in (
      subst (λ (l : List Request). Performed free w l c.push.new.self.items (world_of after.table (s.meaning after.store))) (taken_more request calls i no_call c.loop-call-test.true) more,
      c.perform-answer.ensures.rule ∙ c.loop-call.invariant.1,
    )

pub returns : goal.returns
returns g c =
    let s = g.S.VersionStore in
    let start = c.args.self.now in
    let now = c.loop-call.self in
    let w = world_of start.table (s.meaning start.store) in
    let v = world_of now.table (s.meaning now.store) in
    let calls = c.args.calls.now in
    let answers = c.loop-call.answers.items in
    let all = take_all c.loop-call.call-index calls c.loop-call-test.false in
    let done : Performed (s.free start.store) w (map request calls) answers v = subst (λ (l : List Call). Performed (s.free start.store) w (map request l) answers v) all c.loop-call.invariant.0 in
    let same = c.loop-call.invariant.1 in
    record {
      after = done;
      ran = λ nodes keys placement fits made. ran (s.free start.store) (s.free now.store) nodes keys placement w v (map request calls) answers fits made same done;
      told = λ nodes keys placement fits made. told (s.free now.store) nodes keys placement (map request calls) answers v (ran (s.free start.store) (s.free now.store) nodes keys placement w v (map request calls) answers fits made same done);
      rule = same;
    }
