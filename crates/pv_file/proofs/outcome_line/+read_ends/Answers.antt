use Rattle.std.proofs.Common.{◌<◌, length, rules}
use Rattle.std.proofs.lemmas.Result.{IfOk-weaker}
use Rattle.pv_file.proofs.Ends.{at_place, no_part, puts_more, further, put_further}
use Rattle.pv_file.proofs.outcome_line.+read_ends.Goals as goal

pub returns-in-None-clause-complete : goal.returns-in-None-clause-complete
returns-in-None-clause-complete t c = λ to kept e.
    let within : c.args.i < length c.args.bx.now = search rules in
    let split = at_place c.args.bx.now c.args.i c.get.result within c.get.ensures.value in
    absurd (no_part c.args.version c.get.result _ _ c.args.rest.now split c.in-None.ensures.complete to kept e)

pub returns-in_ok-push-in-Some-clause-sound : goal.returns-in_ok-push-in-Some-clause-sound
returns-in_ok-push-in-Some-clause-sound t c =
    let within : c.args.i < length c.args.bx.now = search rules in
    let split = at_place c.args.bx.now c.args.i c.get.result within c.get.ensures.value in
    IfOk-weaker c.read_ends.result _ _
    (λ good f yes. puts_more c.args.version c.get.result c.in-Some.first.part _ _ _ _ _ _ _ split c.in-Some.ensures.sound c.in-Some.ensures.part c.in_ok-push-in-Some.ensures.items (f yes))
    c.read_ends.ensures.sound

pub returns-in_ok-push-in-Some-clause-complete : goal.returns-in_ok-push-in-Some-clause-complete
returns-in_ok-push-in-Some-clause-complete t c = λ to kept e.
    let within : c.args.i < length c.args.bx.now = search rules in
    let split = at_place c.args.bx.now c.args.i c.get.result within c.get.ensures.value in
    let more = further c.args.version c.get.result _ _ c.args.rest.now c.in-Some.first.part c.in-Some.first.rest.now split c.in-Some.ensures.complete to kept e in
    IfOk-weaker c.read_ends.result _ _
    (λ good both. (both.0, put_further c.in-Some.first.part more.others to _ _ _ more.is c.in_ok-push-in-Some.ensures.items both.1))
    (c.read_ends.ensures.complete more.others more.kept more.text)
