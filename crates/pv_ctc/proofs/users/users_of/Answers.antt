use Rattle.std.proofs.Common.{refl, arith, get_or, []}
use Rattle.pv_ctc.proofs.Using.{more_turned, left_turned, none_turned}
use Rattle.pv_ctc.proofs.users.users_of.Goals as goal

pub loop-i-init : goal.loop-i-init
loop-i-init c = record {
  end = refl;
  done = λ v k w h. absurd (omega arith);
  left = λ v k w h. none_turned c.none-users.result c.none-users.ensures 12 v k w;
}

pub loop-i-preserved : goal.loop-i-preserved
loop-i-preserved c = record {
  end = refl;
  done = more_turned c.loop-i.users c.add_user.new.users c.args.uses.now c.loop-i.i _ refl c.add_user.ensures c.loop-i.invariant.done c.loop-i.invariant.left;
  left = left_turned c.loop-i.users c.add_user.new.users (get_or c.args.uses.now c.loop-i.i []) c.loop-i.i _ refl c.add_user.ensures c.loop-i.invariant.left;
}

pub returns : goal.returns
returns c = λ v k w h. c.loop-i.invariant.done v k w (omega (arith, h, c.loop-i-test.false))
