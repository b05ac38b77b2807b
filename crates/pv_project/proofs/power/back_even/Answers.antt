use Rattle.std.proofs.Common.{◌∙◌, sym, subst}
use Rattle.std.specs.Prelude.{IsTrue}
use Rattle.pv_num.specs.Order.{le}
use Rattle.pv_interval.specs.Tables.{nought}
use Rattle.pv_project.proofs.Roots.{root_down_open, root_up_open, from_zero_low, from_zero_high}
use Rattle.pv_project.proofs.power.back_even.Goals as goal

pub root-lo-requires-clause-not_negative : goal.root-lo-requires-clause-not_negative
root-lo-requires-clause-not_negative c =
    subst (λ w. IsTrue (le nought w)) (sym c.lo.ensures.value)
    (from_zero_low c.args.z c.in_ok-powers.powers (sym c.meet_between.ensures ∙ c.in_ok-powers.was))

pub root-hi-requires-clause-not_negative : goal.root-hi-requires-clause-not_negative
root-hi-requires-clause-not_negative c =
    subst (λ w. IsTrue (le nought w)) (sym c.hi.ensures.value)
    (from_zero_high c.args.z c.in_ok-powers.powers c.hi.ensures.interval (sym c.meet_between.ensures ∙ c.in_ok-powers.was))

pub meet_both_signs-requires-clause-lo_open : goal.meet_both_signs-requires-clause-lo_open
meet_both_signs-requires-clause-lo_open c = λ e. root_down_open c.lo.result c.args.n (sym c.root-lo.ensures ∙ e)

pub meet_both_signs-requires-clause-hi_open : goal.meet_both_signs-requires-clause-hi_open
meet_both_signs-requires-clause-hi_open c = λ e. root_up_open c.hi.result c.args.n (sym c.root-hi.ensures ∙ e)
