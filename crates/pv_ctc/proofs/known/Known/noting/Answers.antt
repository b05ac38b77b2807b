use Rattle.std.proofs.Common.{inl, inr, ap, subst}
use Rattle.pv_hc4.specs.Judging.{revised_by}
use Rattle.pv_ctc.specs.Contracting.{sides_in, side_at}
use Rattle.pv_ctc.specs.Facts.{IsNoted}
use Rattle.pv_ctc.proofs.Noting.{noted_sure, noted_kept, noted_changed}
use Rattle.pv_ctc.proofs.known.Known.noting.Goals as goal

pub returns-in-Sure : goal.returns-in-Sure
returns-in-Sure c = λ b d i h w. inr (noted_sure (sides_in c.args.graphs.now) c.args.self c.with.result c.args.number b d c.with.ensures h (subst (λ j. IsNoted (side_at (sides_in c.args.graphs.now) c.args.number) j b d) c.in-Sure.is w))

pub returns-in-Kept : goal.returns-in-Kept
returns-in-Kept c = λ b d i h w. inr (noted_kept (sides_in c.args.graphs.now) c.args.self c.with-in-Kept.result c.args.number b d c.with-in-Kept.ensures h (subst (λ j. IsNoted (side_at (sides_in c.args.graphs.now) c.args.number) j b d) c.in-Kept.is w))

pub returns-in-Changed : goal.returns-in-Changed
returns-in-Changed c = λ b d i h w.
    inr (noted_changed c.args.graphs.now.dims (sides_in c.args.graphs.now) c.args.self c.spared.result c.in-Changed.places c.args.number b d c.learn.ensures i c.spared.ensures.kept c.spared.ensures.spared h (subst (λ j. IsNoted (side_at (sides_in c.args.graphs.now) c.args.number) j b d) c.in-Changed.is w))

pub returns-in-Empty : goal.returns-in-Empty
returns-in-Empty c = λ b d i h w. inl (ap revised_by c.in-Empty.is)
