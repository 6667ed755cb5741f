-- The result of a parser, compared with the definition's reading, unless memory runs out.
use Rattle.std.specs.Prelude.{◌≡◌, ◌+◌, ◌<◌, ◌^◌, None, Result, Ok, Err}
use Rattle.text_io.specs.Limits.{IsCommon}
use Rattle.script_lexer.specs.Texts.{TextParts}
use Rattle.script_model.specs.Syntax.{Script}
use Rattle.script_model.specs.Reading.{Reading, Refusal, SyntaxAt, LimitAt}
use Rattle.script_syntax.specs.declared.faults.ParseFault.{ParseFault}
use Rattle.script_syntax.specs.declared.faults.ParseFault.TheVariants.{Syntax, ScriptLimit as MeetsLimit, Memory}

-- a value stands for what was read, and a fault or limit is the refusal, unless memory runs out
abbrev pub Answers : {A B : Type 0} → (A → B) → Result A ParseFault → Result B Refusal → Type 0
Answers seen (Ok value) reading = reading ≡ Ok (seen value)
Answers seen (Err (Syntax line column)) reading = reading ≡ Err (SyntaxAt line column)
Answers seen (Err (MeetsLimit kind line)) reading = reading ≡ Err (LimitAt kind line)
Answers seen (Err Memory) reading = Unit {0}

-- a script is the text's reading, a fault or limit its refusal
abbrev pub Parses : Result Script ParseFault → Reading → Type 0
Parses result reading = Answers (λ script. script) result reading

-- a limit of a text is the same in each version
abbrev pub HasCommonLimit : ParseFault → Type 0
HasCommonLimit (Syntax line column) = Unit {0}
HasCommonLimit (MeetsLimit kind line) = IsCommon kind
HasCommonLimit Memory = Unit {0}

-- this fault or limit is the refusal
abbrev pub IsRefused : ParseFault → Refusal → Type 0
IsRefused (Syntax line column) refusal = refusal ≡ SyntaxAt line column
IsRefused (MeetsLimit kind line) refusal = refusal ≡ LimitAt kind line
IsRefused Memory refusal = ⊥

-- if a text has no fault, the number of the line after its last one is below 2^32
abbrev pub EndsSoon : TextParts → Type 0
EndsSoon text = text.fault ≡ None → text.line_count + 1 < 2 ^ 32
