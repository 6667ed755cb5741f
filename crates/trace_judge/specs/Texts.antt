-- The line that reports a judgement. This form is this project's own choice.
use Rattle.std.specs.Prelude.{ℕ, List, [], ◌∷◌, ◌++◌, codes}
use Rattle.word_model.specs.Numbers.{decimal}
use Rattle.trace_judge.specs.declared.judgement.How.{How}
use Rattle.trace_judge.specs.declared.judgement.How.TheVariants.{Extra, Missing, NotALine, Text}
use Rattle.trace_judge.specs.declared.judgement.Judgement.{Judgement}
use Rattle.trace_judge.specs.declared.judgement.Judgement.TheVariants.{Equal, Differs}

unfoldable pub how_text : How → List ℕ
unfolding decimal
how_text Extra = codes "extra"
how_text Missing = codes "missing"
how_text NotALine = codes "not-a-line"
how_text (Text column) = codes "text " ++ decimal column

unfoldable pub judgement_text : Judgement → List ℕ
unfolding decimal how_text
judgement_text (Equal lines) = codes "equal " ++ decimal lines ++ (10 ∷ [])
judgement_text (Differs line how) = codes "differs " ++ decimal line ++ (32 ∷ how_text how) ++ (10 ∷ [])
