use Rattle.std.proofs.Common.{◌≡◌, ◌<◌, ◌≤◌, ◌++◌, ◌^◌, ◌*◌, ◌+◌, ℕ, sum_by, length, take, drop, get_or, sym, ap, ◌∙◌, subst, arith}
use Rattle.pv_tree.proofs.Wholes.{written_back}
use Rattle.pv_pool.specs.Counting.{AreBelow, Ended, HasServed}
use Rattle.pv_pool.specs.Benches.{drawn, put}
use Rattle.pv_pool.specs.declared.bench.Bench.{Bench}
use Rattle.pv_pool.specs.Ends.{IsClosed}
use Rattle.pv_pool.specs.Accounts.{HaveAccounts}
use Rattle.pv_pool.proofs.Linking.{any_default}
use Rattle.pv_pool.proofs.Sitting.{pick}
use Rattle.pv_pool.proofs.Serving.{served}
use Rattle.pv_pool.proofs.Accounting.{sums, have_accounts}
use Rattle.pv_pool.proofs.pool.run_workers.Goals as goal

pub close-requires-clause-few : goal.close-requires-clause-few
close-requires-clause-few g c κs within = λ i d there.
    let e : put (get_or c.work_all-told.result.1.items i d) ≤ 17 * 2 ^ 63 = c.work_all-told.ensures.few i d (subst (λ l. i < length l) c.as_mut_slice.ensures.value there) in
    subst (λ l. put (get_or l i d) < 2 ^ 98) (sym c.as_mut_slice.ensures.value) (omega arith)

pub close-requires-clause-room : goal.close-requires-clause-room
close-requires-clause-room g c κs within = λ i t there.
    subst (λ l. AreBelow (2 ^ 99) (g.W.Work.numbers (get_or l i t))) (sym c.as_mut_slice-2.ensures.value)
    (c.work_all-told.ensures.room i t (subst (λ l. i < length l) c.as_mut_slice-2.ensures.value there))

pub returns-clause-served : goal.returns-clause-served
returns-clause-served g c = λ i t there.
    let m = g.W.Work.numbers in
    let w = c.work_all-told.ensures in
    let ys = c.work_all-told.result.0.items in
    let bs = c.work_all-told.result.1.items in
    let xs = c.close.new.told in
    let len = c.work_all-told.result.0.len in
    let lent = c.as_mut_slice-2.ensures.value in
    let long : length ys ≡ len = ap length (sym lent) ∙ c.as_mut_slice-2.ensures.len in
    let now : length xs ≡ len = c.close.ensures.count ∙ c.as_mut_slice-2.ensures.len in
    let back : take len (xs ++ drop (length xs) ys) ≡ xs = written_back len xs ys now long in
    let inside : i < length c.args.told.items = subst (λ n. i < n) c.args.told.ok.0 there in
    let at_bench : i < length bs = subst (λ n. i < n) (sym w.benches_count) inside in
    let at_told : i < length c.as_mut_slice-2.result.now = subst (λ n. i < n) (sym (ap length lent ∙ w.count)) inside in
    let d = pick bs (omega arith) in
    subst (λ l. HasServed (m (get_or c.args.told.items i t)) (m (get_or l i t))) (sym back)
    (served i c.as_mut_slice.result.now d (m (get_or c.args.told.items i t)) (m (get_or c.as_mut_slice-2.result.now i t)) (m (get_or xs i t)) 0 (drawn (get_or bs i d)) (put (get_or bs i d))
    (subst (λ l. Ended (m (get_or c.args.told.items i t)) (m (get_or l i t)) 0 (drawn (get_or bs i d)) 0 (put (get_or bs i d))) (sym lent) (w.each i t d inside))
    (subst (λ l. put (get_or l i d) ≤ 17 * 2 ^ 63) (sym c.as_mut_slice.ensures.value) (w.few i d at_bench))
    (c.close.ensures.closed i d t at_told))

pub returns-clause-sums : goal.returns-clause-sums
returns-clause-sums g c =
    let m = g.W.Work.numbers in
    let w = c.work_all-told.ensures in
    let before = c.args.told.items in
    let ys = c.work_all-told.result.0.items in
    let bs = c.work_all-told.result.1.items in
    let xs = c.close.new.told in
    let len = c.work_all-told.result.0.len in
    let lent = c.as_mut_slice-2.ensures.value in
    let long : length ys ≡ len = ap length (sym lent) ∙ c.as_mut_slice-2.ensures.len in
    let now : length xs ≡ len = c.close.ensures.count ∙ c.as_mut_slice-2.ensures.len in
    let back : take len (xs ++ drop (length xs) ys) ≡ xs = written_back len xs ys now long in
    let some = c.requires.some in
    let size = c.args.told.ok.0 in
    let filled : 0 < length before = subst (λ n. 0 < n) size some in
    let t = pick before filled in
    let d = pick bs (subst (λ n. 0 < n) (sym w.benches_count) filled) in
    let closed : (i : ℕ) (d : Bench g.row.W-Job.Denot) (t : g.row.W-Told.Denot) → i < length before → IsClosed i bs d (m (get_or ys i t)) (m (get_or xs i t)) = λ i d t there.
    subst (λ l. IsClosed i bs d (m (get_or l i t)) (m (get_or xs i t))) lent
    (subst (λ l. IsClosed i l d (m (get_or c.as_mut_slice-2.result.now i t)) (m (get_or xs i t))) c.as_mut_slice.ensures.value
    (c.close.ensures.closed i d t (subst (λ n. i < n) (sym (ap length lent ∙ w.count)) there))) in
    subst (λ l. sum_by (λ t. (m t).given) l + sum_by (λ t. (m t).back) before ≡ sum_by (λ t. (m t).given) before + sum_by (λ t. (m t).back) l) (sym back)
    (sums m before ys xs bs d t w.benches_count w.links w.each closed (now ∙ (sym long ∙ w.count)))

pub returns-clause-accounts : goal.returns-clause-accounts
returns-clause-accounts g c =
    let m = g.W.Work.numbers in
    let w = c.work_all-told.ensures in
    let before = c.args.told.items in
    let ys = c.work_all-told.result.0.items in
    let bs = c.work_all-told.result.1.items in
    let xs = c.close.new.told in
    let len = c.work_all-told.result.0.len in
    let lent = c.as_mut_slice-2.ensures.value in
    let long : length ys ≡ len = ap length (sym lent) ∙ c.as_mut_slice-2.ensures.len in
    let now : length xs ≡ len = c.close.ensures.count ∙ c.as_mut_slice-2.ensures.len in
    let back : take len (xs ++ drop (length xs) ys) ≡ xs = written_back len xs ys now long in
    let some = c.requires.some in
    let size = c.args.told.ok.0 in
    let filled : 0 < length before = subst (λ n. 0 < n) size some in
    let t = pick before filled in
    let d = pick bs (subst (λ n. 0 < n) (sym w.benches_count) filled) in
    let closed : (i : ℕ) (d : Bench g.row.W-Job.Denot) (t : g.row.W-Told.Denot) → i < length before → IsClosed i bs d (m (get_or ys i t)) (m (get_or xs i t)) = λ i d t there.
    subst (λ l. IsClosed i bs d (m (get_or l i t)) (m (get_or xs i t))) lent
    (subst (λ l. IsClosed i l d (m (get_or c.as_mut_slice-2.result.now i t)) (m (get_or xs i t))) c.as_mut_slice.ensures.value
    (c.close.ensures.closed i d t (subst (λ n. i < n) (sym (ap length lent ∙ w.count)) there))) in
    subst (λ l. HaveAccounts g.row.W-Job.Denot m before l) (sym back)
    (have_accounts m before ys xs bs d t w.benches_count w.each closed
    (λ l i u there same. any_default l i u t (subst (λ n. i < n) (sym same) there)) w.count (now ∙ (sym long ∙ w.count)))
