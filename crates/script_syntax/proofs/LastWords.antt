-- The last word of a line.
use Rattle.std.proofs.Common.{◌≡◌, ℕ, ◌+◌, ◌-◌, List, [], ◌∷◌, ◌++◌, refl}
use Rattle.std.specs.List.{All, fold}
use Rattle.std.proofs.lemmas.List.Elements.{All-head, All-tail}
use Rattle.script_lexer.specs.declared.places.Span.{Span}
use Rattle.script_lexer.specs.Texts.{after_of, InLine}

fold_last : (front : List Span) (last : Span) (start first : ℕ) → fold (λ before span. span.to - start + 1) first (front ++ (last ∷ [])) ≡ last.to - start + 1
fold_last [] last start first = refl
fold_last (s ∷ ss) last start first = fold_last ss last start (s.to - start + 1)

pub after_last : (front : List Span) (last : Span) (start : ℕ) → after_of start (front ++ (last ∷ [])) ≡ last.to - start + 1
after_last front last start = fold_last front last start 1

pub last_inside : (front : List Span) (last : Span) (start size : ℕ) → All (InLine start size) (front ++ (last ∷ [])) → InLine start size last
last_inside [] last start size all = All-head (InLine start size) last [] all
last_inside (s ∷ ss) last start size all = last_inside ss last start size (All-tail (InLine start size) s (ss ++ (last ∷ [])) all)
