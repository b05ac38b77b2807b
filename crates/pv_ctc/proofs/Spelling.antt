-- The texts of programs with several parts.
use Rattle.std.proofs.Common.{◌≡◌, ℕ, List, ◌++◌, ap, sym, ◌∙◌, append_assoc, Vec, Global}
use Rattle.std.specs.Prelude.{codes, decimal}
use Rattle.pv_ctc.specs.declared.program.Program.{Program, Compose, Union, QInter}
use Rattle.pv_ctc.specs.Plans.{plan_of, plans_of}
use Rattle.pv_ctc.specs.Texts.{program_text, parts_text}
use Rattle.pv_ctc.proofs.Sizes.{vec_plans}

pub compose_text : (p : Program) (v : Vec Program Global) (xs : List Program) → p ≡ Compose v → xs ≡ v.items → program_text (plan_of p) ≡ codes "compose(" ++ parts_text 0 (plans_of xs) ++ codes ")"
compose_text p v xs e f = ap (λ q. program_text (plan_of q)) e ∙ ap (λ ps. codes "compose(" ++ parts_text 0 ps ++ codes ")") (vec_plans v xs f)

pub union_text : (p : Program) (v : Vec Program Global) (xs : List Program) → p ≡ Union v → xs ≡ v.items → program_text (plan_of p) ≡ codes "union(" ++ parts_text 0 (plans_of xs) ++ codes ")"
union_text p v xs e f = ap (λ q. program_text (plan_of q)) e ∙ ap (λ ps. codes "union(" ++ parts_text 0 ps ++ codes ")") (vec_plans v xs f)

qinter_text : (p : Program) (n : ℕ) (v : Vec Program Global) (xs : List Program) → p ≡ QInter n v → xs ≡ v.items → program_text (plan_of p) ≡ codes "qinter(" ++ decimal n ++ codes "," ++ parts_text 0 (plans_of xs) ++ codes ")"
qinter_text p n v xs e f = ap (λ q. program_text (plan_of q)) e ∙ ap (λ ps. codes "qinter(" ++ decimal n ++ codes "," ++ parts_text 0 ps ++ codes ")") (vec_plans v xs f)

flat : (out h d c ps e : List ℕ) → (out ++ (h ++ d)) ++ (c ++ ps ++ e) ≡ out ++ (h ++ d ++ c ++ ps ++ e)
flat out h d c ps e = simp append_assoc

pub qinter_written : (p : Program) (n : ℕ) (v : Vec Program Global) (xs : List Program) (out more : List ℕ) → p ≡ QInter n v → xs ≡ v.items → more ≡ out ++ (codes "qinter(" ++ decimal n) → more ++ (codes "," ++ parts_text 0 (plans_of xs) ++ codes ")") ≡ out ++ program_text (plan_of p)
qinter_written p n v xs out more e f h =
    ap (λ o. o ++ (codes "," ++ parts_text 0 (plans_of xs) ++ codes ")")) h
    ∙ flat out (codes "qinter(") (decimal n) (codes ",") (parts_text 0 (plans_of xs)) (codes ")")
    ∙ ap (λ x. out ++ x) (let s = qinter_text p n v xs e f in sym s)
