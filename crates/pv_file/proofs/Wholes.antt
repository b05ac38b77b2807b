-- Whole files: their first two lines and the lines of their nodes.
use Rattle.std.proofs.Common.{◌≡◌, ℕ, suc, ◌+◌, ◌<◌, List, [], ◌∷◌, ◌++◌, get_or, drop, refl, sym, ◌∙◌, ap, subst, arith, inl, inr, append_assoc}
use Rattle.std.specs.Prelude.{codes}
use Rattle.std.proofs.lemmas.List.{append_cancel_left}
use Rattle.hex.specs.Hex.{encode_lower, decode_of}
use Rattle.hex.proofs.HexLemmas.{decode_of-encode_lower, decode_of-same}
use Rattle.pv_interval.specs.Bounds.{Bounds}
use Rattle.pv_box.specs.Boxes.{IsBox}
use Rattle.pv_tree.specs.Trees.{Tree, leaf}
use Rattle.pv_file.specs.declared.version.Version.{Version}
use Rattle.pv_file.specs.declared.version.Version.TheVariants.{One, Two}
use Rattle.pv_file.specs.Lines.{lines_of}
use Rattle.pv_file.specs.Texts.{IsDigest, version_text, identity_text, header_text, file_text}
use Rattle.pv_file.specs.Readings.{IsFree, BeginAlike, IsPavingInFormat, IsTextOf, HasOtherIdentity, IsFirstBadLine, IsOneTooMany}
use Rattle.pv_file.specs.Reading.{HasNoIdentity, IsBadHeader, HasOtherHeader, IsBadBody, IsManyBody}
use Rattle.pv_file.proofs.Steps.{same_line}
use Rattle.pv_file.proofs.Headers.{version_free, identity_free}

-- ---- Two texts begin alike

pub record Peeled (n : ℕ) (bytes line tail : List ℕ) : Type 0 where
  pub rest : List ℕ
  pub text : bytes ≡ line ++ 10 ∷ rest
  pub alike : BeginAlike n rest tail

pub peel : (n : ℕ) (bytes text line tail : List ℕ) → IsFree 10 line → text ≡ line ++ 10 ∷ tail → BeginAlike (suc n) bytes text → Peeled n bytes line tail
peel n bytes text line tail free e a =
    let first : List ℕ = a.are_lines.0 in
    let others : List ℕ = a.are_lines.1 in
    let of_text : text ≡ first ++ 10 ∷ (others ++ a.text_rest) = a.text_is ∙ ap (λ (x : List ℕ). x ++ a.text_rest) a.are_lines.2 ∙ append_assoc first (10 ∷ others) a.text_rest in
    let same = same_line text first line (others ++ a.text_rest) tail a.are_lines.3 free of_text e in record {
      rest = others ++ a.bytes_rest;
      text = a.bytes_are ∙ ap (λ (x : List ℕ). x ++ a.bytes_rest) a.are_lines.2 ∙ append_assoc first (10 ∷ others) a.bytes_rest
          ∙ ap (λ (x : List ℕ). x ++ 10 ∷ (others ++ a.bytes_rest)) same.0;
      alike = record { lines = others; bytes_rest = a.bytes_rest; text_rest = a.text_rest; are_lines = a.are_lines.4; bytes_are = refl; text_is = sym same.1 };
    }

pub unpeel : (n : ℕ) (bytes text line rest tail : List ℕ) → IsFree 10 line → bytes ≡ line ++ 10 ∷ rest → text ≡ line ++ 10 ∷ tail → BeginAlike n rest tail → BeginAlike (suc n) bytes text
unpeel n bytes text line rest tail free e f a = record {
  lines = line ++ 10 ∷ a.lines;
  bytes_rest = a.bytes_rest;
  text_rest = a.text_rest;
  are_lines = (line, a.lines, refl, free, a.are_lines);
  bytes_are = e ∙ ap (λ (x : List ℕ). line ++ 10 ∷ x) a.bytes_are ∙ sym (append_assoc line (10 ∷ a.lines) a.bytes_rest);
  text_is = f ∙ ap (λ (x : List ℕ). line ++ 10 ∷ x) a.text_is ∙ sym (append_assoc line (10 ∷ a.lines) a.text_rest);
}

pub alike_none : (bytes text : List ℕ) → BeginAlike 0 bytes text
alike_none bytes text = record { lines = []; bytes_rest = bytes; text_rest = text; are_lines = refl; bytes_are = refl; text_is = refl }

-- ---- The two lines of a header

pub header_first : (v : Version) (d body : List ℕ) → header_text v d ++ body ≡ version_text v ++ 10 ∷ (identity_text d ++ 10 ∷ body)
header_first v d body =
    append_assoc (version_text v) (10 ∷ (identity_text d ++ 10 ∷ [])) body
    ∙ ap (λ (x : List ℕ). version_text v ++ 10 ∷ x) (append_assoc (identity_text d) (10 ∷ []) body)

last_differs : (a b : ℕ) → a < b → 112 ∷ 97 ∷ 118 ∷ 105 ∷ 110 ∷ 103 ∷ 32 ∷ a ∷ [] ≡ 112 ∷ 97 ∷ 118 ∷ 105 ∷ 110 ∷ 103 ∷ 32 ∷ b ∷ [] → ⊥
last_differs a b l e = let k : a ≡ b = ap (λ (x : List ℕ). get_or (drop 7 x) 0 0) e in omega (arith, l, k)

version_names : (v w : Version) → version_text v ≡ version_text w → v ≡ w
version_names One One e = refl
version_names One Two e = absurd (last_differs 49 50 (omega arith) e)
version_names Two One e = absurd (last_differs 49 50 (omega arith) (sym e))
version_names Two Two e = refl

pub same_version : (bytes : List ℕ) (v w : Version) (r s : List ℕ) → bytes ≡ version_text v ++ 10 ∷ r → bytes ≡ version_text w ++ 10 ∷ s → (v ≡ w) × (r ≡ s)
same_version bytes v w r s e f =
    let same = same_line bytes (version_text v) (version_text w) r s (version_free v) (version_free w) e f in
    (version_names v w same.0, same.1)

-- ---- Headers that are bad

trivial_paving : (b : List Bounds) → IsBox b → IsPavingInFormat b leaf
trivial_paving b box = record { paving = record { box = box; paves = tt; depth = omega arith }; numbers = tt }

first_bad : (limit : ℕ) (bytes identity : List ℕ) (b : List Bounds) → IsBox b → ((v : Version) (rest : List ℕ) → bytes ≡ version_text v ++ 10 ∷ rest → ⊥) → IsFirstBadLine limit 1 bytes identity b
first_bad limit bytes identity b box none = record {
  before = 0;
  next = refl;
  good = record {
    tree = leaf;
    begins = record { version = Two; paving = trivial_paving b box; alike = alike_none bytes (file_text Two identity b leaf) };
    few = omega arith;
  };
  bad = λ other t digest begins.
      let p = peel 0 bytes _ (version_text begins.version) _ (version_free begins.version) (header_first begins.version other (lines_of begins.version b t)) begins.alike in
      none begins.version p.rest p.text;
}

second_bad : (limit : ℕ) (bytes identity : List ℕ) (b : List Bounds) (v : Version) (rest : List ℕ) → IsBox b → bytes ≡ version_text v ++ 10 ∷ rest → HasNoIdentity rest → IsFirstBadLine limit 2 bytes identity b
second_bad limit bytes identity b v rest box e none = record {
  before = 1;
  next = refl;
  good = record {
    tree = leaf;
    begins = record {
      version = v;
      paving = trivial_paving b box;
      alike = unpeel 0 bytes (file_text v identity b leaf) (version_text v) rest _ (version_free v) e (header_first v identity (lines_of v b leaf)) (alike_none rest _);
    };
    few = omega arith;
  };
  bad = λ other t digest begins.
      let p = peel 1 bytes _ (version_text begins.version) _ (version_free begins.version) (header_first begins.version other (lines_of begins.version b t)) begins.alike in
      let q = peel 0 p.rest _ (identity_text other) (lines_of begins.version b t) (identity_free other digest) refl p.alike in
      let same = same_version bytes v begins.version rest p.rest e p.text in
      none other q.rest digest (same.1 ∙ q.text);
}

pub bad_header : (limit n : ℕ) (bytes identity : List ℕ) (b : List Bounds) → IsBox b → IsBadHeader n bytes → IsFirstBadLine limit n bytes identity b
bad_header limit n bytes identity b box (inl h) = subst (λ (k : ℕ). IsFirstBadLine limit k bytes identity b) (sym h.0) (first_bad limit bytes identity b box h.1)
bad_header limit n bytes identity b box (inr h) = subst (λ (k : ℕ). IsFirstBadLine limit k bytes identity b) (sym h.0) (second_bad limit bytes identity b h.1 h.2 box h.3 h.4)

pub other_header : (bytes identity : List ℕ) (b : List Bounds) → IsBox b → HasOtherHeader bytes identity → HasOtherIdentity bytes identity b
other_header bytes identity b box h = record {
  other = h.second.other;
  tree = leaf;
  is_digest = h.second.is_digest;
  differs = h.second.differs;
  begins = record {
    version = h.version;
    paving = trivial_paving b box;
    alike = unpeel 1 bytes (file_text h.version h.second.other b leaf) (version_text h.version) h.rest _ (version_free h.version) h.first (header_first h.version h.second.other (lines_of h.version b leaf))
        (unpeel 0 h.rest _ (identity_text h.second.other) h.second.rest (lines_of h.version b leaf) (identity_free h.second.other h.second.is_digest) h.second.second refl (alike_none h.second.rest (lines_of h.version b leaf)));
  };
}

-- ---- Bytes with a good header

whole_first : (bytes : List ℕ) (v : Version) (d body : List ℕ) → bytes ≡ header_text v d ++ body → bytes ≡ version_text v ++ 10 ∷ (identity_text d ++ 10 ∷ body)
whole_first bytes v d body e = e ∙ header_first v d body

-- Behind the header the texts begin alike by two lines less.
pub record Behind (n : ℕ) (body : List ℕ) (v w : Version) (b : List Bounds) (t : Tree) : Type 0 where
  pub same : w ≡ v
  pub alike : BeginAlike n body (lines_of v b t)

pub behind : (n : ℕ) (bytes identity other body : List ℕ) (v w : Version) (b : List Bounds) (t : Tree) → IsDigest identity → IsDigest other → bytes ≡ header_text v identity ++ body
    → BeginAlike (suc (suc n)) bytes (file_text w other b t) → Behind n body v w b t
behind n bytes identity other body v w b t digest others e a =
    let p = peel (suc n) bytes _ (version_text w) _ (version_free w) (header_first w other (lines_of w b t)) a in
    let q = peel n p.rest _ (identity_text other) (lines_of w b t) (identity_free other others) refl p.alike in
    let first = same_version bytes v w (identity_text identity ++ 10 ∷ body) p.rest (whole_first bytes v identity body e) p.text in
    let second = same_line p.rest (identity_text identity) (identity_text other) body q.rest (identity_free identity digest) (identity_free other others) (sym first.1) q.text in record {
      same = sym first.0;
      alike = subst (λ (x : List ℕ). BeginAlike n x (lines_of v b t)) (sym second.1) (subst (λ (x : Version). BeginAlike n q.rest (lines_of x b t)) (sym first.0) q.alike);
    }

pub ahead : (n : ℕ) (bytes identity body : List ℕ) (v : Version) (b : List Bounds) (t : Tree) → IsDigest identity → bytes ≡ header_text v identity ++ body
    → BeginAlike n body (lines_of v b t) → BeginAlike (suc (suc n)) bytes (file_text v identity b t)
ahead n bytes identity body v b t digest e a =
    unpeel (suc n) bytes (file_text v identity b t) (version_text v) _ _ (version_free v) (whole_first bytes v identity body e) (header_first v identity (lines_of v b t))
    (unpeel n _ _ (identity_text identity) body (lines_of v b t) (identity_free identity digest) refl refl a)

third : (n before : ℕ) → n ≡ before + 3 → n ≡ suc (suc (suc before))
third n before e = omega (arith, e)

pub bad_body : (limit n : ℕ) (bytes identity body : List ℕ) (v : Version) (b : List Bounds) → IsDigest identity → bytes ≡ header_text v identity ++ body → IsBadBody limit v b body n
    → IsFirstBadLine limit n bytes identity b
bad_body limit n bytes identity body v b digest e h =
    let three : n ≡ suc (suc (suc h.before)) = third n h.before h.next in record {
      before = suc (suc h.before);
      next = three;
      good = record {
        tree = h.tree;
        begins = record { version = v; paving = h.paving; alike = ahead h.before bytes identity body v b h.tree digest e h.alike };
        few = h.few;
      };
      bad = λ other t others begins.
          let a : BeginAlike (suc (suc (suc h.before))) bytes (file_text begins.version other b t) = subst (λ (k : ℕ). BeginAlike k bytes (file_text begins.version other b t)) three begins.alike in
          h.bad t begins.paving (behind (suc h.before) bytes identity other body v begins.version b t digest others e a).alike;
    }

pub many_body : (limit n : ℕ) (bytes identity body : List ℕ) (v : Version) (b : List Bounds) → IsDigest identity → bytes ≡ header_text v identity ++ body → IsManyBody limit v b body n
    → IsOneTooMany limit n bytes identity b
many_body limit n bytes identity body v b digest e h =
    let three : n ≡ suc (suc (suc h.before)) = third n h.before h.next in record {
      before = suc (suc h.before);
      next = three;
      good = record {
        tree = h.tree;
        begins = record { version = v; paving = h.paving; alike = ahead h.before bytes identity body v b h.tree digest e h.alike };
        few = h.few;
      };
      tree = h.large;
      begins = record {
        version = v;
        paving = h.large_paving;
        alike = subst (λ (k : ℕ). BeginAlike k bytes (file_text v identity b h.large)) (sym three) (ahead (suc h.before) bytes identity body v b h.large digest e h.large_alike);
      };
      many = λ t begins.
          let a : BeginAlike (suc (suc (suc h.before))) bytes (file_text begins.version identity b t) = subst (λ (k : ℕ). BeginAlike k bytes (file_text begins.version identity b t)) three begins.alike in
          h.many t begins.paving (behind (suc h.before) bytes identity identity body v begins.version b t digest digest e a).alike;
    }

-- ---- Whole texts

pub text_of : (bytes identity body : List ℕ) (v : Version) (b : List Bounds) (t : Tree) → bytes ≡ header_text v identity ++ body → body ≡ lines_of v b t → IsTextOf bytes identity b t
text_of bytes identity body v b t e f = (v, e ∙ ap (λ (x : List ℕ). header_text v identity ++ x) f)

-- The lines of a text with a known header.
pub body_of : (bytes identity body : List ℕ) (v : Version) (b : List Bounds) (t : Tree) → IsDigest identity → bytes ≡ header_text v identity ++ body → IsTextOf bytes identity b t
    → body ≡ lines_of v b t
body_of bytes identity body v b t digest e f =
    let whole : bytes ≡ version_text f.0 ++ 10 ∷ (identity_text identity ++ 10 ∷ lines_of f.0 b t) = f.1 ∙ header_first f.0 identity (lines_of f.0 b t) in
    let first = same_version bytes v f.0 (identity_text identity ++ 10 ∷ body) _ (whole_first bytes v identity body e) whole in
    let second = same_line _ (identity_text identity) (identity_text identity) body (lines_of f.0 b t) (identity_free identity digest) (identity_free identity digest) refl (first.1) in
    second.1 ∙ ap (λ (x : Version). lines_of x b t) (sym first.0)

-- A text has a good header.
pub no_bad_header : (n : ℕ) (bytes identity : List ℕ) (b : List Bounds) (t : Tree) → IsDigest identity → IsTextOf bytes identity b t → IsBadHeader n bytes → ⊥
no_bad_header n bytes identity b t digest f (inl h) = h.1 f.0 (identity_text identity ++ 10 ∷ lines_of f.0 b t) (f.1 ∙ header_first f.0 identity (lines_of f.0 b t))
no_bad_header n bytes identity b t digest f (inr h) =
    let first = same_version bytes h.1 f.0 h.2 (identity_text identity ++ 10 ∷ lines_of f.0 b t) h.3 (f.1 ∙ header_first f.0 identity (lines_of f.0 b t)) in
    h.4 identity (lines_of f.0 b t) digest first.1

pub same_digest : (d other : List ℕ) → IsDigest d → IsDigest other → identity_text d ≡ identity_text other → d ≡ other
same_digest d other h k e =
    let digits : encode_lower d ≡ encode_lower other = append_cancel_left (codes "identity ") (encode_lower d) (encode_lower other) e in
    decode_of-same (encode_lower d) d other (decode_of-encode_lower d h.bytes) (ap decode_of digits ∙ decode_of-encode_lower other k.bytes)

pub no_other_header : (bytes identity : List ℕ) (b : List Bounds) (t : Tree) → IsDigest identity → IsTextOf bytes identity b t → HasOtherHeader bytes identity → ⊥
no_other_header bytes identity b t digest f h =
    let first = same_version bytes h.version f.0 h.rest (identity_text identity ++ 10 ∷ lines_of f.0 b t) h.first (f.1 ∙ header_first f.0 identity (lines_of f.0 b t)) in
    let second = same_line h.rest (identity_text h.second.other) (identity_text identity) h.second.rest (lines_of f.0 b t) (identity_free h.second.other h.second.is_digest) (identity_free identity digest)
    h.second.second first.1 in
    h.second.differs (same_digest h.second.other identity h.second.is_digest digest second.0)
