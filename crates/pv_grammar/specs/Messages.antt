-- The names of causes, as messages print them.
use Rattle.std.specs.Prelude.{ℕ, List, codes}
use Rattle.pv_grammar.specs.declared.cause.Cause.{Cause}
use Rattle.pv_grammar.specs.declared.cause.Cause.TheVariants.{BadByte, NumberTooWide, NotInProfile, UnknownName, DuplicateName, BadExponent, TooManyVariables, TooManyConstraints, TooDeep, Unexpected, EndOfText, BadBounds, TextTooLong, TooLarge, TooManyFunctions}

abbrev pub cause_name : Cause → List ℕ
cause_name BadByte = codes "BadByte"
cause_name NumberTooWide = codes "NumberTooWide"
cause_name NotInProfile = codes "NotInProfile"
cause_name UnknownName = codes "UnknownName"
cause_name DuplicateName = codes "DuplicateName"
cause_name BadExponent = codes "BadExponent"
cause_name TooManyVariables = codes "TooManyVariables"
cause_name TooManyConstraints = codes "TooManyConstraints"
cause_name TooDeep = codes "TooDeep"
cause_name Unexpected = codes "Unexpected"
cause_name EndOfText = codes "EndOfText"
cause_name BadBounds = codes "BadBounds"
cause_name TextTooLong = codes "TextTooLong"
cause_name TooLarge = codes "TooLarge"
cause_name TooManyFunctions = codes "TooManyFunctions"
