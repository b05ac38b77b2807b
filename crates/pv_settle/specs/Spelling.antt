-- The settings' text, and the identity of a settler.
use Rattle.std.specs.Prelude.{ℕ, List, ◌++◌, codes, decimal}
use Rattle.pv_num.specs.Parts.{number_text}
use Rattle.pv_box.specs.declared.choice.Bisector.{Bisector}
use Rattle.pv_box.specs.declared.choice.Bisector.TheVariants.{Largest, Round}
use Rattle.pv_expr.specs.Canonical.{canonical_text}
use Rattle.pv_ctc.specs.Plans.{plan_of}
use Rattle.pv_ctc.specs.Texts.{program_text}
use Rattle.sha2.specs.Sha256.{sha256}
use Rattle.pv_settle.specs.Rules.{SettlerParts}

abbrev pub bisector_text : Bisector → List ℕ
bisector_text Largest = codes "\nbisect largest\ncontract "
bisector_text Round = codes "\nbisect round\ncontract "

-- a line each for the width, the depth, the bisector and the program
abbrev pub settings_text : SettlerParts → List ℕ
settings_text r =
    codes "eps " ++ number_text r.eps ++ codes "\ndepth " ++ decimal r.depth ++ bisector_text r.bisector ++ program_text (plan_of r.program) ++ codes "\n"

-- the SHA-256 digest of the system's canonical text followed by the settings' text
abbrev pub identity_of : SettlerParts → List ℕ
identity_of r = sha256 (canonical_text r.system ++ settings_text r)
