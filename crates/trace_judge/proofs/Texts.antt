-- The line of a judgement, part by part.
use Rattle.std.proofs.Common.{◌≡◌, ◌∙◌, ap, ℕ, List, [], ◌∷◌, ◌++◌, append_assoc}
use Rattle.std.specs.Prelude.{codes}
use Rattle.word_model.specs.Numbers.{decimal}
use Rattle.trace_judge.specs.declared.judgement.How.{How}
use Rattle.trace_judge.specs.declared.judgement.How.TheVariants.{Text}
use Rattle.trace_judge.specs.declared.judgement.Judgement.TheVariants.{Equal, Differs}
use Rattle.trace_judge.specs.Texts.{how_text, judgement_text}

pub equal_pushed : (lines : ℕ) (first second whole : List ℕ) → first ≡ codes "equal " → second ≡ first ++ decimal lines → whole ≡ second ++ (10 ∷ [])
    → whole ≡ judgement_text (Equal lines)
unfolding judgement_text
equal_pushed lines first second whole a b c = c ∙ ap (λ text. text ++ (10 ∷ [])) (b ∙ ap (λ text. text ++ decimal lines) a)

pub column_pushed : (old first whole : List ℕ) (column : ℕ) → first ≡ old ++ codes "text " → whole ≡ first ++ decimal column → whole ≡ old ++ how_text (Text column)
unfolding how_text
column_pushed old first whole column a b = b ∙ ap (λ text. text ++ decimal column) a ∙ append_assoc old (codes "text ") (decimal column)

pub differs_pushed : (line : ℕ) (how : How) (first second third fourth whole : List ℕ) → first ≡ codes "differs " → second ≡ first ++ decimal line → third ≡ second ++ (32 ∷ [])
    → fourth ≡ third ++ how_text how → whole ≡ fourth ++ (10 ∷ []) → whole ≡ judgement_text (Differs line how)
unfolding judgement_text
differs_pushed line how first second third fourth whole a b c d e =
    e
    ∙ ap (λ text. text ++ (10 ∷ []))
    (d ∙ ap (λ text. text ++ how_text how) (c ∙ ap (λ text. text ++ (32 ∷ [])) (b ∙ ap (λ text. text ++ decimal line) a))
    ∙ append_assoc (codes "differs " ++ decimal line) (32 ∷ []) (how_text how))
