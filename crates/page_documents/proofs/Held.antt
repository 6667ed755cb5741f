-- What the documents keep true, once one of them is changed.
use Rattle.std.proofs.Common.{◌≡◌, ◌<◌, ◌≤◌, ℕ, zero, suc, List, [], ◌∷◌, length, get_or, slice_set, length-set, IsSome, Option, ap, sym, subst, ◌∙◌, arith}
use Rattle.std.proofs.lemmas.List.Elements.{All-set}
use Rattle.page_model.specs.World.{Document}
use Rattle.page_documents.specs.Held.{HasFrames, IsHeld}

frames_set : (documents : List Document) (i : ℕ) (x y : Document) → i < length documents → x ≡ get_or documents i x → y.frame ≡ x.frame
    → HasFrames documents → HasFrames (slice_set documents i y)
frames_set [] i x y inside is same frames = absurd (omega arith)
frames_set (top ∷ documents) zero x y inside is same frames = (same ∙ ap (λ (it : Document). it.frame) is ∙ frames.0, frames.1)
frames_set (top ∷ documents) (suc i) x y inside is same frames = (
  frames.0,
  All-set (λ (it : Document). IsSome (it.frame)) documents i y
      (subst (λ (o : Option ℕ). IsSome o) (sym (same ∙ ap (λ (it : Document). it.frame) is)) (frames.1 i x (omega arith))) frames.1,
)

pub held_set : {documents : List Document} {most : ℕ} → IsHeld documents most → (i : ℕ) (x y : Document) → i < length documents → x ≡ get_or documents i x
    → y.frame ≡ x.frame → IsHeld (slice_set documents i y) most
held_set {documents} {most} is i x y inside read same = record {
  within = subst (λ n. n ≤ most) (sym (length-set documents i y)) is.within;
  bounded = is.bounded;
  frames = frames_set documents i x y inside read same is.frames;
}
