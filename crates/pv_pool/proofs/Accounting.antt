-- The accounts of the workers, and the sums over all of them.
use Rattle.std.proofs.Common.{◌≡◌, ℕ, zero, suc, ◌+◌, ◌<◌, ◌≢◌, List, [], ◌∷◌, length, map, get_or, cond, nat_eq, All, refl, sym, ap, ap₂, ◌∙◌, subst, sum_by, add-zero, eq-eqb, ne_eqb, arith}
use Rattle.std.proofs.lemmas.List.Sums.{sum_by-cons}
use mathlib.Core.Logic.{dite}
use native.Mathlib.Decide.{dec_le, ℕ_discrete}
use Rattle.pv_pool.specs.declared.deque.Hand.{Hand}
use Rattle.pv_pool.specs.declared.deque.Thief.{Thief}
use Rattle.pv_pool.specs.declared.bench.Bench.{Bench}
use Rattle.pv_pool.specs.Hands.{taken_of}
use Rattle.pv_pool.specs.Counting.{Numbers, after_returns, Ended}
use Rattle.pv_pool.specs.Benches.{own, reach, stolen_by, drawn, put}
use Rattle.pv_pool.specs.Links.{from, row_from, bench_from, all_from, total, IsWay, Links}
use Rattle.pv_pool.specs.Ends.{IsClosed}
use Rattle.pv_pool.specs.Accounts.{Account, stolen_from, stolen_count, IsWhole, IsKept, HaveAccounts}
use Rattle.pv_pool.proofs.HandSums.{ones}

-- the sum of the first n
abbrev upto : ℕ → (ℕ → ℕ) → ℕ
upto zero f = 0
upto (suc n) f = upto n f + f n

upto_shift : (n : ℕ) (f : ℕ → ℕ) → upto (suc n) f ≡ f 0 + upto n (λ k. f (suc k))
upto_shift zero f = omega arith
upto_shift (suc n) f = let h = upto_shift n f in omega arith

upto_same : (n : ℕ) (f g : ℕ → ℕ) → ((k : ℕ) → k < n → f k ≡ g k) → upto n f ≡ upto n g
upto_same zero f g e = refl
upto_same (suc n) f g e = let h = upto_same n f g (λ k there. e k (omega arith)) in let l = e n (omega arith) in omega arith

upto_add : (n : ℕ) (f g : ℕ → ℕ) → upto n (λ k. f k + g k) ≡ upto n f + upto n g
upto_add zero f g = refl
upto_add (suc n) f g = let h = upto_add n f g in omega arith

upto_none : (n : ℕ) (f : ℕ → ℕ) → ((k : ℕ) → k < n → f k ≡ 0) → upto n f ≡ 0
upto_none zero f e = refl
upto_none (suc n) f e = let h = upto_none n f (λ k there. e k (omega arith)) in let l = e n (omega arith) in omega arith

upto_one : (n m c : ℕ) → m < n → upto n (λ k. cond (nat_eq m k) c 0) ≡ c
upto_one zero m c h = absurd (omega arith)
upto_one (suc n) m c h = dite (ℕ_discrete m n)
    (λ (e : m ≡ n).
    let z = upto_none n (λ k. cond (nat_eq m k) c 0) (λ k there. ap (λ b. cond b c 0) (ne_eqb m k (λ z. omega arith))) in
    let l : cond (nat_eq m n) c 0 ≡ c = ap (λ b. cond b c 0) (eq-eqb m n e) in
    omega arith)
    (λ (e : m ≢ n).
    let t = upto_one n m c (omega arith) in
    let l : cond (nat_eq m n) c 0 ≡ 0 = ap (λ b. cond b c 0) (ne_eqb m n e) in
    omega arith)

sum_upto : {X : Type 0} (f : X → ℕ) (xs : List X) (d : X) → sum_by f xs ≡ upto (length xs) (λ k. f (get_or xs k d))
sum_upto f [] d = refl
sum_upto f (x ∷ xs) d =
    let t = sum_upto f xs d in
    let s = upto_shift (length xs) (λ k. f (get_or (x ∷ xs) k d)) in
    omega (arith, sum_by-cons f x xs)

balance : (n : ℕ) (g p s l b h c u a : ℕ → ℕ) → ((i : ℕ) → i < n → g i + p i + s i + l i + b i ≡ h i + c i + u i) → ((i : ℕ) → i < n → u i ≡ p i + a i + l i)
    → upto n g + upto n s + upto n b ≡ upto n h + upto n c + upto n a
balance zero g p s l b h c u a kept whole = refl
balance (suc n) g p s l b h c u a kept whole =
    let t = balance n g p s l b h c u a (λ i there. kept i (omega arith)) (λ i there. whole i (omega arith)) in
    let k = kept n (omega arith) in
    let w = whole n (omega arith) in
    omega arith

sum_alike : {X : Type 0} (f g : X → ℕ) (xs : List X) → ((x : X) → f x ≡ g x) → sum_by f xs ≡ sum_by g xs
sum_alike f g [] e = refl
sum_alike f g (x ∷ xs) e = let t = sum_alike f g xs e in let h = e x in omega (arith, sum_by-cons f x xs, sum_by-cons g x xs)

sum_map : {X Y : Type 0} (f : Y → ℕ) (g : X → Y) (xs : List X) → sum_by f (map g xs) ≡ sum_by (λ x. f (g x)) xs
sum_map f g [] = refl
sum_map f g (x ∷ xs) = let t = sum_map f g xs in omega (arith, sum_by-cons f (g x) (map g xs), sum_by-cons (λ y. f (g y)) x xs)

zero_add : (k : ℕ) → 0 + k ≡ k
zero_add k = omega arith

module _ {J : Type 0} where
  -- a list weighs its length where each job weighs 1
  counted : (k : ℕ) (bs : List (Bench J)) → all_from k (taken_of (λ (x : J). 1)) bs ≡ all_from k (λ (v : Hand J). length v.taken) bs
  counted k bs = sum_alike (bench_from k (taken_of (λ (x : J). 1))) (bench_from k (λ (v : Hand J). length v.taken)) bs
      (λ b. sum_alike (from k (taken_of (λ (x : J). 1))) (from k (λ (v : Hand J). length v.taken)) b.thieves.items (λ t. ap (λ n. cond (nat_eq t.deque k) n 0) (ones (reach t).taken)))

  -- what is taken of all deques is what all thieves took
  row_over : (n : ℕ) (f : Hand J → ℕ) (ts : List (Thief J)) → ((j : ℕ) (e : Thief J) → j < length ts → (get_or ts j e).deque < n) → upto n (λ k. row_from k f ts) ≡ sum_by (λ (t : Thief J). f (reach t)) ts
  row_over n f [] there = upto_none n (λ k. row_from k f []) (λ k _. refl)
  row_over n f (t ∷ ts) there =
      let rest = row_over n f ts (λ j e inside. there (suc j) e (omega arith)) in
      let here = upto_one n t.deque (f (reach t)) (there 0 t (omega arith)) in
      let apart = upto_same n (λ k. row_from k f (t ∷ ts)) (λ k. from k f t + row_from k f ts) (λ k _. sum_by-cons (from k f) t ts) in
      let both = upto_add n (λ k. from k f t) (λ k. row_from k f ts) in
      omega (arith, sum_by-cons (λ (t : Thief J). f (reach t)) t ts)

  all_over : (n : ℕ) (f : Hand J → ℕ) (bs : List (Bench J)) → ((i : ℕ) (d : Bench J) → i < length bs → (j : ℕ) (e : Thief J) → j < length (get_or bs i d).thieves.items → (get_or (get_or bs i d).thieves.items j e).deque < n)
      → upto n (λ k. all_from k f bs) ≡ sum_by (λ (b : Bench J). sum_by (λ (t : Thief J). f (reach t)) b.thieves.items) bs
  all_over n f [] there = upto_none n (λ k. all_from k f []) (λ k _. refl)
  all_over n f (b ∷ bs) there =
      let rest = all_over n f bs (λ i d inside. there (suc i) d (omega arith)) in
      let here = row_over n f b.thieves.items (there 0 b (omega arith)) in
      let apart = upto_same n (λ k. all_from k f (b ∷ bs)) (λ k. bench_from k f b + all_from k f bs) (λ k _. sum_by-cons (bench_from k f) b bs) in
      let both = upto_add n (λ k. bench_from k f b) (λ k. all_from k f bs) in
      omega (arith, sum_by-cons (λ (b : Bench J). sum_by (λ (t : Thief J). f (reach t)) b.thieves.items) b bs)

  abbrev stolen_pair : Thief J → ℕ × List J
  stolen_pair t = (t.deque, (reach t).taken)

  abbrev account_of : Bench J → List J → Account J
  account_of b l = record { pushed = (own b.owner).pushed; popped = (own b.owner).taken; stolen = map stolen_pair b.thieves.items; left = l }

  abbrev accounts_from : (ℕ → List J) → ℕ → List (Bench J) → List (Account J)
  accounts_from f i [] = []
  accounts_from f i (b ∷ bs) = account_of b (f i) ∷ accounts_from f (suc i) bs

  acc_len : (f : ℕ → List J) (i : ℕ) (bs : List (Bench J)) → length (accounts_from f i bs) ≡ length bs
  acc_len f i [] = refl
  acc_len f i (b ∷ bs) = ap suc (acc_len f (suc i) bs)

  acc_at : (f : ℕ → List J) (i : ℕ) (bs : List (Bench J)) (k : ℕ) (a : Account J) (d : Bench J) → k < length bs → get_or (accounts_from f i bs) k a ≡ account_of (get_or bs k d) (f (i + k))
  acc_at f i [] k a d h = absurd (omega arith)
  acc_at f i (b ∷ bs) zero a d h = let e : i ≡ i + 0 = omega arith in ap (λ n. account_of b (f n)) e
  acc_at f i (b ∷ bs) (suc k) a d h = let e : suc i + k ≡ i + suc k = omega arith in acc_at f (suc i) bs k a d (omega arith) ∙ ap (λ n. account_of (get_or bs k d) (f n)) e

  acc_from : (h : J → ℕ) (k : ℕ) (f : ℕ → List J) (i : ℕ) (bs : List (Bench J)) → sum_by (stolen_from h k) (accounts_from f i bs) ≡ all_from k (taken_of h) bs
  acc_from h k f i [] = refl
  acc_from h k f i (b ∷ bs) =
      let t = acc_from h k f (suc i) bs in
      let m : stolen_from h k (account_of b (f i)) ≡ bench_from k (taken_of h) b = sum_map (λ (s : ℕ × List J). cond (nat_eq s.0 k) (sum_by h s.1) 0) stolen_pair b.thieves.items in
      omega (arith, sum_by-cons (stolen_from h k) (account_of b (f i)) (accounts_from f (suc i) bs), sum_by-cons (bench_from k (taken_of h)) b bs)

  acc_count : (b : Bench J) (l : List J) → stolen_count (account_of b l) ≡ sum_by stolen_by b.thieves.items
  acc_count b l = sum_map (λ (s : ℕ × List J). length s.1) stolen_pair b.thieves.items

  abbrev Left : List (Bench J) → Bench J → ℕ → Numbers → Numbers → List J → Type 0
  Left bs d i mid new l = ((h : J → ℕ) → sum_by h (own (get_or bs i d).owner).pushed ≡ total i (taken_of h) bs [] d + sum_by h l) × (new ≡ after_returns (length l) mid)

  lefts : (bs : List (Bench J)) (d : Bench J) (mid new : ℕ → Numbers) → ((i : ℕ) → i < length bs → IsClosed i bs d (mid i) (new i)) → (i : ℕ) → (l : List J) × (i < length bs → Left bs d i (mid i) (new i) l)
  lefts bs d mid new closed i = dite (dec_le (suc i) (length bs))
      (λ (h : i < length bs). (let c = closed i h in (c.left, λ _. (c.bag, c.numbers))))
      (λ n. ([], λ (h : i < length bs). absurd (n h)))

  kept : (b : Bench J) (l : List J) (old mid new : Numbers) → Ended old mid 0 (drawn b) 0 (put b) → new ≡ after_returns (length l) mid → IsKept old new (account_of b l)
  kept b l old mid new e told =
      let g : new.given ≡ mid.given = ap (λ (n : Numbers). n.given) told in
      let k : new.back ≡ mid.back + length l = ap (λ (n : Numbers). n.back) told in
      let s = acc_count b l in
      let w = e.balance in
      omega arith

module _ {J T : Type 0} (numbers : T → Numbers) where
  pub have_accounts : (before mid after : List T) (bs : List (Bench J)) (d : Bench J) (t : T) → length bs ≡ length before
      → ((i : ℕ) (t : T) (d : Bench J) → i < length before → Ended (numbers (get_or before i t)) (numbers (get_or mid i t)) 0 (drawn (get_or bs i d)) 0 (put (get_or bs i d)))
      → ((i : ℕ) (d : Bench J) (t : T) → i < length before → IsClosed i bs d (numbers (get_or mid i t)) (numbers (get_or after i t)))
      → ((xs : List T) (i : ℕ) (u : T) → i < length before → length xs ≡ length before → get_or xs i u ≡ get_or xs i t) → length mid ≡ length before → length after ≡ length before
      → HaveAccounts J numbers before after
  have_accounts before mid after bs d t same ended closed any mids afters =
      let g = lefts bs d (λ i. numbers (get_or mid i t)) (λ i. numbers (get_or after i t)) (λ i h. closed i d t (subst (λ n. i < n) same h)) in
      let f : ℕ → List J = λ i. (g i).0 in
      let all : List (Account J) = accounts_from f 0 bs in
      record {
        accounts = all;
        count = acc_len f 0 bs ∙ same;
        deques = λ k a there h.
            let inside : k < length bs = subst (λ n. k < n) (acc_len f 0 bs) there in
            let at : get_or all k a ≡ account_of (get_or bs k d) (f k) = acc_at f 0 bs k a d inside ∙ ap (λ n. account_of (get_or bs k d) (f n)) (zero_add k) in
            let bag = ((g k).1 inside).0 h in
            let from_all = acc_from h k f 0 bs in
            let none : row_from {J = J} k (taken_of h) [] ≡ 0 = refl in
            subst (λ (x : Account J). sum_by h x.pushed ≡ sum_by h x.popped + sum_by (stolen_from h k) all + sum_by h x.left) (sym at) (omega arith);
        workers = λ i a u there.
            let inside : i < length bs = subst (λ n. i < n) (sym same) there in
            let at : get_or all i a ≡ account_of (get_or bs i d) (f i) = acc_at f 0 bs i a d inside ∙ ap (λ n. account_of (get_or bs i d) (f n)) (zero_add i) in
            subst (λ (x : Account J). IsKept (numbers (get_or before i u)) (numbers (get_or after i u)) x) (sym at)
            (subst (λ (x : T). IsKept (numbers (get_or before i u)) (numbers x) (account_of (get_or bs i d) (f i))) (sym (any after i u there afters))
            (subst (λ (x : T). IsKept (numbers x) (numbers (get_or after i t)) (account_of (get_or bs i d) (f i))) (sym (any before i u there refl))
            (kept (get_or bs i d) (f i) (numbers (get_or before i t)) (numbers (get_or mid i t)) (numbers (get_or after i t)) (ended i t d there) ((g i).1 inside).1)));
      }

  -- over all workers, given less back is as before
  pub sums : (before mid after : List T) (bs : List (Bench J)) (d : Bench J) (t : T) → length bs ≡ length before → Links bs []
      → ((i : ℕ) (t : T) (d : Bench J) → i < length before → Ended (numbers (get_or before i t)) (numbers (get_or mid i t)) 0 (drawn (get_or bs i d)) 0 (put (get_or bs i d)))
      → ((i : ℕ) (d : Bench J) (t : T) → i < length before → IsClosed i bs d (numbers (get_or mid i t)) (numbers (get_or after i t)))
      → length after ≡ length before
      → sum_by (λ t. (numbers t).given) after + sum_by (λ t. (numbers t).back) before ≡ sum_by (λ t. (numbers t).given) before + sum_by (λ t. (numbers t).back) after
  sums before mid after bs d t same links ended closed afters =
      let n = length before in
      let g = lefts bs d (λ i. numbers (get_or mid i t)) (λ i. numbers (get_or after i t)) (λ i h. closed i d t (subst (λ n. i < n) same h)) in
      let stolen : ℕ → ℕ = λ i. sum_by stolen_by (get_or bs i d).thieves.items in
      let of_deque : ℕ → ℕ = λ k. all_from k (λ (v : Hand J). length v.taken) bs in
      let swapped : upto n of_deque ≡ upto n stolen =
      all_over n (λ (v : Hand J). length v.taken) bs (λ i d inside j e k. subst (λ m. (get_or (get_or bs i d).thieves.items j e).deque < m) same (links.ways i d inside j e k).there)
      ∙ (sum_upto (λ (b : Bench J). sum_by stolen_by b.thieves.items) bs d ∙ ap (λ m. upto m stolen) same) in
      let b = balance n (λ i. (numbers (get_or after i t)).given) (λ i. length (own (get_or bs i d).owner).taken) stolen (λ i. length (g i).0) (λ i. (numbers (get_or before i t)).back)
      (λ i. (numbers (get_or before i t)).given) (λ i. (numbers (get_or after i t)).back) (λ i. length (own (get_or bs i d).owner).pushed) of_deque
      (λ i there.
      let k = kept (get_or bs i d) (g i).0 (numbers (get_or before i t)) (numbers (get_or mid i t)) (numbers (get_or after i t)) (ended i t d there) ((g i).1 (subst (λ m. i < m) (sym same) there)).1 in
      let c = acc_count (get_or bs i d) (g i).0 in
      omega arith)
      (λ k there.
      let bag = ((g k).1 (subst (λ m. k < m) (sym same) there)).0 (λ (x : J). 1) in
      let u = ones (own (get_or bs k d).owner).pushed in
      let p = ones (own (get_or bs k d).owner).taken in
      let l = ones (g k).0 in
      let a = counted k bs in
      let none : row_from {J = J} k (taken_of (λ (x : J). 1)) [] ≡ 0 = refl in
      omega arith) in
      let s0 = sum_upto (λ (t : T). (numbers t).given) after t ∙ ap (λ m. upto m (λ i. (numbers (get_or after i t)).given)) afters in
      let s1 = sum_upto (λ (t : T). (numbers t).back) before t in
      let s2 = sum_upto (λ (t : T). (numbers t).given) before t in
      let s3 = sum_upto (λ (t : T). (numbers t).back) after t ∙ ap (λ m. upto m (λ i. (numbers (get_or after i t)).back)) afters in
      omega arith
