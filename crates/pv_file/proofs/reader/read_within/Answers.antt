use Rattle.std.proofs.Common.{◌∙◌, ap}
use Rattle.std.specs.Prelude.{Err}
use Rattle.pv_file.proofs.Refusals.{same_error, refused_memory}
use Rattle.pv_file.proofs.Wholes.{bad_header, other_header, bad_body, many_body, body_of, no_bad_header, no_other_header}
use Rattle.pv_file.proofs.reader.read_within.Goals as goal

pub returns-in-Ok-clause-complete : goal.returns-in-Ok-clause-complete
returns-in-Ok-clause-complete c = λ t paving few text.
    c.read_nodes.ensures.complete t paving few
    (body_of c.args.bytes.now c.args.identity c.in-Ok.header.rest.now c.in-Ok.header.version c.args.root.now t c.learn_digest.ensures c.in-Ok.ensures.text text)

pub returns-in-Ok-clause-bad_line : goal.returns-in-Ok-clause-bad_line
returns-in-Ok-clause-bad_line c = λ n e.
    bad_body c.args.limit n c.args.bytes.now c.args.identity c.in-Ok.header.rest.now c.in-Ok.header.version c.args.root.now c.learn_digest.ensures c.in-Ok.ensures.text (c.read_nodes.ensures.bad n e)

pub returns-in-Ok-clause-too_many : goal.returns-in-Ok-clause-too_many
returns-in-Ok-clause-too_many c = λ n e.
    many_body c.args.limit n c.args.bytes.now c.args.identity c.in-Ok.header.rest.now c.in-Ok.header.version c.args.root.now c.learn_digest.ensures c.in-Ok.ensures.text (c.read_nodes.ensures.many n e)

pub returns-in-Err-clause-complete : goal.returns-in-Err-clause-complete
returns-in-Err-clause-complete c = λ t paving few text.
    refused_memory c.in-Err.refusal
    (λ w. no_other_header c.args.bytes.now c.args.identity c.args.root.now t c.learn_digest.ensures text (c.read_header.ensures.other (c.in-Err.is ∙ ap Err w)))
    (λ n w. no_bad_header n c.args.bytes.now c.args.identity c.args.root.now t c.learn_digest.ensures text (c.read_header.ensures.bad n (c.in-Err.is ∙ ap Err w)))
    (λ n w. c.read_header.ensures.not_many n (c.in-Err.is ∙ ap Err w))

pub returns-in-Err-clause-wrong_identity : goal.returns-in-Err-clause-wrong_identity
returns-in-Err-clause-wrong_identity c = λ e.
    other_header c.args.bytes.now c.args.identity c.args.root.now c.dims-places.ensures.is_box (c.read_header.ensures.other (c.in-Err.is ∙ ap Err (same_error _ _ e)))

pub returns-in-Err-clause-bad_line : goal.returns-in-Err-clause-bad_line
returns-in-Err-clause-bad_line c = λ n e.
    bad_header c.args.limit n c.args.bytes.now c.args.identity c.args.root.now c.dims-places.ensures.is_box (c.read_header.ensures.bad n (c.in-Err.is ∙ ap Err (same_error _ _ e)))
