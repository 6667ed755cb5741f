-- A text that is fed in pieces: what was fed, and its line feeds.
use Rattle.std.proofs.Common.{◌≡◌, ◌≤◌, ◌<◌, ◌+◌, ◌-◌, ◌∙◌, ◌++◌, ap, refl, sym, subst, arith, ℕ, List, [], length, length-append, take}
use Rattle.std.proofs.lemmas.List.{append-nil, length-take, take_all, take-append-le, take_min}
use Rattle.std.proofs.lemmas.List.Sums.{count_by-le-length, sum_by-append}
use Rattle.std.proofs.Math.Seq.{drop-append_seam, take-append-add}
use Rattle.std.proofs.KnownBytes.{Consumes-trans}
use Rattle.std.specs.Io.KnownBytes.{Consumes, IsAtEnd}
use Rattle.std.specs.Prelude.{cond, count_by, drop, false, min, ◌==◌, IfSome, Option, None, Some}
use Rattle.text_io.specs.Streams.{PassesLimit, TakesAtMost}
use Rattle.recorded_source.specs.Recorded.{Divided, Divides, IsFed, TakenBytes, feeds_within, has_feed, opened}
use Rattle.recorded_source.proofs.Pieces.{nothing_divided}

module _ (limit : ℕ) (text : List ℕ) (fits : length text ≤ limit) where
  behind : (piece : List ℕ) → take limit (text ++ piece) ≡ text ++ take (limit - length text) piece
  behind piece = ap (λ n. take n (text ++ piece)) (omega (arith, fits)) ∙ take-append-add text piece (limit - length text)

  both : (piece : List ℕ) → feeds_within limit (text ++ piece) ≡ feeds_within limit text + feeds_within (limit - length text) piece
  unfolding feeds_within
  both piece =
      ap (λ bytes. count_by (λ b. b == 10) bytes) (behind piece)
      ∙ sum_by-append (λ b. cond (b == 10) 1 0) text (take (limit - length text) piece)
      ∙ ap (λ bytes. count_by (λ b. b == 10) bytes + count_by (λ b. b == 10) (take (limit - length text) piece)) (sym (take_all limit text fits))

  -- of a further piece those within the limit are counted
  feeds_on : (piece : List ℕ) (feeds more : ℕ) → feeds ≡ feeds_within limit text
      → more ≡ count_by (λ b. b == 10) (take (min (limit - length text) (length piece)) piece) → feeds + more ≡ feeds_within limit (text ++ piece)
  unfolding feeds_within
  feeds_on piece feeds more so_far here =
      ap (λ n. n + more) so_far
      ∙ ap (λ n. feeds_within limit text + n) (here ∙ ap (λ bytes. count_by (λ b. b == 10) bytes) (take_min (limit - length text) piece))
      ∙ sym (both piece)

-- there are no more of them than bytes
feeds_fit : (limit : ℕ) (text : List ℕ) → feeds_within limit text ≤ limit
unfolding feeds_within
feeds_fit limit text =
    let few = count_by-le-length (λ b. b == 10) (take limit text) in
    let short = length-take limit text in
    omega (arith, few, short)

-- what a further piece adds
pub fed_on : (fed piece : List ℕ) (it new : TakenBytes) (within more : ℕ) → it.bytes < 67108865 → within ≡ min (67108864 - it.bytes) (length piece)
    → more ≡ count_by (λ b. b == 10) (take within piece) → new.bytes ≡ it.bytes + length piece → new.feeds ≡ it.feeds + more
    → (Divides fed it.divided → Divides (fed ++ piece) new.divided) → IsFed fed it → IsFed (fed ++ piece) new
fed_on fed piece it new within more room is_within is_more bytes feeds divides here =
    let fits : length fed ≤ 67108864 = omega (arith, here.counted, room) in
    record {
      counted = bytes ∙ ap (λ n. n + length piece) here.counted ∙ sym (length-append fed piece);
      feeds_counted =
          feeds ∙ feeds_on 67108864 fed fits piece it.feeds more here.feeds_counted
          (is_more ∙ ap (λ n. count_by (λ b. b == 10) (take n piece)) (is_within ∙ ap (λ n. min (67108864 - n) (length piece)) here.counted));
      divides = divides here.divides;
    }

-- what was taken of a source
pub record Taking (left now : Option (List ℕ)) (faults faults_now : ℕ) (it : TakenBytes) : Type 0 where
  pub fed : List ℕ
  pub is_fed : IsFed fed it
  pub consumed : Consumes left now fed
  pub unfailed : faults_now ≡ faults
  pub within : it.bytes ≤ 67108865
  pub held : has_feed it.divided.begun ≡ false

pub taking_none : (left : Option (List ℕ)) (faults : ℕ) (it : TakenBytes) → it ≡ record { divided = opened; bytes = 0; feeds = 0 } → Consumes left left [] → Taking left left faults faults it
unfolding feeds_within
taking_none left faults it is none =
    subst (λ (it : TakenBytes). Taking left left faults faults it) (sym is) (record {
      fed = [];
      is_fed = record { counted = refl; feeds_counted = refl; divides = nothing_divided };
      consumed = none;
      unfailed = refl;
      within = omega arith;
      held = refl;
    })

-- where nothing further comes, what was fed is all that there was
all_given : (before now after : Option (List ℕ)) (fed last : List ℕ) → Consumes before now fed → Consumes now after last → last ≡ [] → IsAtEnd after
    → IfSome before (λ text. (fed ≡ text) × (after ≡ Some []))
all_given None now after fed last first then none end = tt
all_given (Some text) None after fed last first then none end = absurd first
all_given (Some text) (Some rest) None fed last first then none end = absurd then
all_given (Some text) (Some rest) (Some nothing) fed last first then none end =
    (sym (first ∙ ap (λ bytes. fed ++ bytes) (then ∙ ap (λ bytes. bytes ++ nothing) none ∙ end) ∙ append-nil fed), ap Some end)

divided-told : (left after : Option (List ℕ)) (fed : List ℕ) (it : Divided) → Divides fed it → IfSome left (λ text. (fed ≡ text) × (after ≡ Some [])) → IfSome left (λ bytes. Divides bytes it)
divided-told None after fed it here all = tt
divided-told (Some text) after fed it here all = subst (λ (bytes : List ℕ). Divides bytes it) all.0 here

end-told : (left after : Option (List ℕ)) (fed : List ℕ) → length fed ≤ 67108864 → IfSome left (λ text. (fed ≡ text) × (after ≡ Some []))
    → IfSome left (λ bytes. (length bytes ≤ 67108864) × (after ≡ Some []))
end-told None after fed fits all = tt
end-told (Some text) after fed fits all = (omega (arith, fits, ap length all.0), all.1)

module _ (left now : Option (List ℕ)) (faults faults_now : ℕ) (it : TakenBytes) (here : Taking left now faults faults_now it) where
  pub divided_all : (after : Option (List ℕ)) (last : List ℕ) (result : Divided) → result ≡ it.divided → Consumes now after last → last ≡ [] → IsAtEnd after → IfSome left (λ bytes. Divides bytes result)
  divided_all after last result is then none end =
      divided-told left after here.fed result (subst (λ (d : Divided). Divides here.fed d) (sym is) here.is_fed.divides) (all_given left now after here.fed last here.consumed then none end)

  pub end_all : (after : Option (List ℕ)) (last : List ℕ) → it.bytes < 67108865 → Consumes now after last → last ≡ [] → IsAtEnd after
      → IfSome left (λ bytes. (length bytes ≤ 67108864) × (after ≡ Some []))
  end_all after last room then none end =
      end-told left after here.fed (omega (arith, room, here.is_fed.counted)) (all_given left now after here.fed last here.consumed then none end)

  -- with a further piece for which there is room, no more than so many bytes are taken
  pub takes_at_most : (after : Option (List ℕ)) (piece : List ℕ) → length piece ≤ 67108865 - it.bytes → Consumes now after piece → TakesAtMost left after 67108865
  takes_at_most after piece room then = (
    here.fed ++ piece,
    Consumes-trans left now after here.fed piece here.consumed then,
    omega (arith, length-append here.fed piece, room, here.within, here.is_fed.counted),
  )

  pub taking_more : (after : Option (List ℕ)) (faults_after : ℕ) (piece : List ℕ) (new : TakenBytes) → Consumes left after (here.fed ++ piece) → faults_after ≡ faults_now
      → new.bytes ≤ 67108865 → has_feed new.divided.begun ≡ false → (IsFed here.fed it → IsFed (here.fed ++ piece) new) → Taking left after faults faults_after new
  taking_more after faults_after piece new consumed unfailed within held fed = record {
    fed = here.fed ++ piece;
    is_fed = fed here.is_fed;
    consumed = consumed;
    unfailed = unfailed ∙ here.unfailed;
    within = within;
    held = held;
  }

-- what was taken of a text that passes a limit
passes : (limit feeds : ℕ) (before after : Option (List ℕ)) (fed : List ℕ) → Consumes before after fed → length fed ≡ limit + 1 → feeds ≡ feeds_within limit fed
    → IfSome before (λ text. PassesLimit text after limit feeds)
unfolding feeds_within
passes limit feeds None after fed first count so_far = tt
passes limit feeds (Some text) None fed first count so_far = absurd first
passes limit feeds (Some text) (Some rest) fed first count so_far =
    let within : limit ≤ length fed = omega (arith, count) in
    let all = ap length first ∙ length-append fed rest in
    record {
      longer = omega (arith, all, count);
      taken = ap Some (sym (ap (λ bytes. drop (limit + 1) bytes) first ∙ ap (λ n. drop n (fed ++ rest)) (sym count) ∙ drop-append_seam fed rest));
      feeds_counted = so_far ∙ ap (λ bytes. count_by (λ b. b == 10) bytes) (sym (ap (λ bytes. take limit bytes) first ∙ take-append-le limit fed rest within));
    }

pub passed : (left now : Option (List ℕ)) (faults faults_now : ℕ) (it : TakenBytes) (feeds : ℕ) → feeds ≡ it.feeds → Taking left now faults faults_now it → 67108865 ≤ it.bytes
    → (feeds ≤ 67108864) × (faults_now ≡ faults) × IfSome left (λ text. PassesLimit text now 67108864 feeds)
passed left now faults faults_now it feeds is here full =
    let few = feeds_fit 67108864 here.fed in
    let counted : feeds ≡ feeds_within 67108864 here.fed = is ∙ here.is_fed.feeds_counted in
    let count : length here.fed ≡ 67108864 + 1 = omega (arith, full, here.within, here.is_fed.counted) in
    (omega (arith, few, counted), here.unfailed, passes 67108864 feeds left now here.fed here.consumed count counted)
