-- Digests and their digits.
use Rattle.std.proofs.Common.{◌≡◌, ℕ, ◌*◌, Bool, true, List, length, sym, ◌∙◌, ap, subst, arith}
use Rattle.std.specs.Prelude.{Result, Ok, Err, MatchResult, is_err}
use Rattle.hex.specs.Hex.{encode_lower, lower_digits, decode_sized}
use Rattle.hex.specs.declared.error.FromHexError.{FromHexError}
use Rattle.hex.proofs.HexLemmas.{length-encode_with, decode_of-encode_lower, decode_sized-twice}
use Rattle.pv_file.specs.Texts.{IsDigest}

sized : (digits d : List ℕ) (n : ℕ) → IsDigest d → digits ≡ encode_lower d → n ≡ 32 → decode_sized digits n ≡ Ok d
sized digits d n h e k =
    let len : length (encode_lower d) ≡ 2 * length d = length-encode_with lower_digits d in
    let twice : length (encode_lower d) ≡ 2 * n = omega (arith, len, h.count, k) in
    ap (λ (x : List ℕ). decode_sized x n) e ∙ decode_sized-twice (encode_lower d) n twice ∙ decode_of-encode_lower d h.bytes

Answers : Result (List ℕ) FromHexError → List ℕ → Result (Unit {0}) FromHexError → Type 0
Answers q out r = MatchResult q (λ bytes. (r ≡ Ok tt) × (out ≡ bytes)) (λ e. r ≡ Err e)

pub decoded : (digits d : List ℕ) (n : ℕ) (out : List ℕ) (r : Result (Unit {0}) FromHexError) → IsDigest d → digits ≡ encode_lower d → n ≡ 32
    → MatchResult (decode_sized digits n) (λ bytes. (r ≡ Ok tt) × (out ≡ bytes)) (λ e. r ≡ Err e) → out ≡ d
unfolding Answers
decoded digits d n out r h e k v = (subst (λ (q : Result (List ℕ) FromHexError). Answers q out r) (sized digits d n h e k) v).1

no_error : (r : Result (Unit {0}) FromHexError) (b : Bool) → r ≡ Ok tt → b ≡ is_err r → b ≡ true → ⊥
no_error r b e f t = cc

pub refused : (digits d : List ℕ) (n : ℕ) (out : List ℕ) (r : Result (Unit {0}) FromHexError) (b : Bool) → IsDigest d → digits ≡ encode_lower d → n ≡ 32
    → MatchResult (decode_sized digits n) (λ bytes. (r ≡ Ok tt) × (out ≡ bytes)) (λ e. r ≡ Err e) → b ≡ is_err r → b ≡ true → ⊥
unfolding Answers
refused digits d n out r b h e k v f t = no_error r b (subst (λ (q : Result (List ℕ) FromHexError). Answers q out r) (sized digits d n h e k) v).0 f t

pub spelled : (digits d out text : List ℕ) → digits ≡ encode_lower d → out ≡ d → text ≡ encode_lower out → digits ≡ text
spelled digits d out text e s t = e ∙ sym (ap encode_lower s) ∙ sym t
