use Rattle.std.proofs.Common.{ap, sym, ◌∙◌, w64, subst}
use Rattle.std.proofs.lemmas.Fmt.{IsAscii-signed, parse-signed_decimal}
use Rattle.std.proofs.lemmas.Str.{IsUtf8-from_ascii}
use Rattle.std.specs.Str.{IsUtf8}
use Rattle.std.specs.Result.{result_ok}
use Rattle.std.specs.Fmt.{signed_decimal}
use Rattle.pv_num.proofs.Texts.{fits_mag, fits_word}
use Rattle.pv_num.proofs.text.parsed.Goals as goal

pub returns-in-Err : goal.returns-in-Err
returns-in-Err c = λ z h e. absurd (c.in-Err.ensures.cases.0 (subst IsUtf8 (sym e) (IsUtf8-from_ascii (signed_decimal z) (IsAscii-signed z (fits_mag z h)))))

pub returns-in-Ok : goal.returns-in-Ok
returns-in-Ok c = λ z h e.
    c.ok.ensures.value ∙ ap result_ok (parse-signed_decimal w64 z c.in-Ok.text.now c.parse.result (fits_word z h) (fits_mag z h) (c.in-Ok.ensures.cases.0 ∙ e) c.parse.ensures.value.0)
