-- How the terms of a list of nodes come from those of its front.
use Rattle.std.proofs.Common.{◌≡◌, ℕ, zero, suc, ◌+◌, ◌<◌, List, [], ◌∷◌, ◌++◌, length, refl, ap, sym, ◌∙◌, arith, length-append}
use Rattle.std.proofs.lemmas.List.{get_or_append_left}
use Rattle.pv_expr.specs.Terms.{Term, place, one, two}
use Rattle.pv_hc4.specs.declared.node.Node.{Node}
use Rattle.pv_hc4.specs.declared.node.Node.TheVariants.{Constant, Place, One, Two}
use Rattle.pv_hc4.specs.Nodes.{term_at, node_at, node_term, grown, terms, ReadsBelow}

pub grown-append : (ts : List Term) (ns ms : List Node) → grown ts (ns ++ ms) ≡ grown (grown ts ns) ms
grown-append ts [] ms = refl
grown-append ts (n ∷ ns) ms = grown-append (ts ++ node_term ts n ∷ []) ns ms

pub length-grown : (ts : List Term) (ns : List Node) → length (grown ts ns) ≡ length ts + length ns
length-grown ts [] = omega arith
length-grown ts (n ∷ ns) =
    let e : length (grown (ts ++ node_term ts n ∷ []) ns) ≡ length (ts ++ node_term ts n ∷ []) + length ns = length-grown (ts ++ node_term ts n ∷ []) ns in
    omega (arith, e, length-append ts (node_term ts n ∷ []))

pub length-terms : (ns : List Node) → length (terms ns) ≡ length ns
length-terms ns = omega (arith, length-grown [] ns)

pub grown_keeps : (ts : List Term) (ns : List Node) (k : ℕ) → k < length ts → term_at (grown ts ns) k ≡ term_at ts k
grown_keeps ts [] k h = refl
grown_keeps ts (n ∷ ns) k h =
    let below : k < length (ts ++ node_term ts n ∷ []) = omega (arith, length-append ts (node_term ts n ∷ [])) in
    grown_keeps (ts ++ node_term ts n ∷ []) ns k below ∙ get_or_append_left ts (node_term ts n ∷ []) (place 0) k h

-- a node's term depends on the terms that it reads alone
pub node_term_stable : (ts us : List Term) (k : ℕ) (n : Node) → ReadsBelow k n → ((j : ℕ) → j < k → term_at ts j ≡ term_at us j) → node_term ts n ≡ node_term us n
node_term_stable ts us k (Constant p q) r h = refl
node_term_stable ts us k (Place i) r h = refl
node_term_stable ts us k (One o a) r h = ap (one o) (h a r)
node_term_stable ts us k (Two o a b) r h =
    ap (λ t. two o t (term_at ts b)) (h a r.0) ∙ ap (two o (term_at us a)) (h b r.1)

here_is : (ts : List Term) (x : Term) → term_at (ts ++ x ∷ []) (length ts) ≡ x
here_is [] x = refl
here_is (t ∷ ts) x = here_is ts x

pub grown_reads : (ts : List Term) (ns : List Node) (k i : ℕ) → i ≡ length ts + k → k < length ns → ReadsBelow i (node_at ns k) → term_at (grown ts ns) i ≡ node_term (grown ts ns) (node_at ns k)
grown_reads ts [] k i e h r = absurd (omega arith)
grown_reads ts (n ∷ ns) zero i e h r =
    let i_is : i ≡ length ts = omega arith in
    let more : i < length (ts ++ node_term ts n ∷ []) = omega (arith, length-append ts (node_term ts n ∷ [])) in
    grown_keeps (ts ++ node_term ts n ∷ []) ns i more
    ∙ ap (term_at (ts ++ node_term ts n ∷ [])) i_is
    ∙ here_is ts (node_term ts n)
    ∙ node_term_stable ts (grown ts (n ∷ ns)) i n r (λ j g.
    let b : j < length ts = omega arith in sym (grown_keeps ts (n ∷ ns) j b))
grown_reads ts (n ∷ ns) (suc k) i e h r =
    let i_is : i ≡ length (ts ++ node_term ts n ∷ []) + k = omega (arith, length-append ts (node_term ts n ∷ [])) in
    let less : k < length ns = omega arith in
    grown_reads (ts ++ node_term ts n ∷ []) ns k i i_is less r

pub term_step : (ns : List Node) (k : ℕ) → k < length ns → ReadsBelow k (node_at ns k) → term_at (terms ns) k ≡ node_term (terms ns) (node_at ns k)
term_step ns k h r = let e : k ≡ 0 + k = omega arith in grown_reads [] ns k k e h r

-- one more node leaves the terms of the others
pub terms_keep : (ns ms : List Node) (k : ℕ) → k < length ns → term_at (terms (ns ++ ms)) k ≡ term_at (terms ns) k
terms_keep ns ms k h =
    let b : k < length (terms ns) = omega (arith, length-terms ns) in
    ap (λ ts. term_at ts k) (grown-append [] ns ms) ∙ grown_keeps (terms ns) ms k b
