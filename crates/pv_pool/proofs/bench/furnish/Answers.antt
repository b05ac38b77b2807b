use Rattle.std.proofs.Common.{◌≡◌, ◌++◌, ◌<◌, ◌≤◌, ◌+◌, rules, subst, sym, ap, ◌∙◌, length, take, drop, get_or, arith}
use Rattle.pv_tree.proofs.Wholes.{written_back}
use Rattle.pv_pool.specs.Benches.{own}
use Rattle.pv_pool.specs.Links.{AreReady}
use Rattle.pv_pool.proofs.Linking.{apart_ready, apart_whole}
use Rattle.pv_pool.proofs.bench.furnish.Goals as goal

pub loop-number-init : goal.loop-number-init
loop-number-init g c =
    let a = c.in_ok-benches.ensures in
    record {
      ready = apart_ready c.args.count c.in_ok-benches.benches.items a;
      whole = λ k d _ there. apart_whole c.args.count c.in_ok-benches.benches.items a k d (subst (λ n. k < n) (sym a.count_is) there);
    }

pub loop-number-preserved : goal.loop-number-preserved
loop-number-preserved g c =
    let e = c.in_ok-introduce.ensures in
    let xs = c.introduce.new.benches in
    let ys = c.loop-number.benches.items in
    let was : length ys ≡ c.args.count = c.loop-number.invariant.ready.count_is in
    let lent : length c.as_mut_slice.result.now ≡ c.args.count = ap length c.as_mut_slice.ensures.value ∙ was in
    let now : length xs ≡ c.args.count = e.ready.count_is ∙ lent in
    let long : length ys ≡ c.loop-number.benches.len = ap length (sym c.as_mut_slice.ensures.value) ∙ c.as_mut_slice.ensures.len in
    let back : take c.loop-number.benches.len (xs ++ drop (length xs) ys) ≡ xs = written_back c.loop-number.benches.len xs ys (now ∙ (sym was ∙ long)) long in
    record {
      ready = subst (AreReady c.args.count) (sym back) (subst (λ n. AreReady n xs) lent e.ready);
      whole = λ k d more there. subst (λ l. (own (get_or l k d).owner).parts ≡ 16) (sym back) (e.whole k d (omega arith) (subst (λ n. k < n) (sym lent) there));
    }
