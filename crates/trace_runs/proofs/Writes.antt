-- Texts written one after another, and first parts of them.
use Rattle.std.proofs.Common.{◌≡◌, ℕ, List, [], ◌∷◌, ◌++◌, Option, Some, None, take, drop, refl, ap, sym, ◌∙◌, append_assoc, subst}
use Rattle.std.proofs.lemmas.List.{append-nil, take-append-drop}
use Rattle.std.specs.Io.KnownBytes.{Appends}
use Rattle.text_io.specs.Streams.{Rose, TakesPart}
use Rattle.trace_runs.specs.Writes.{AppendsPart, AppendsLines, EndsLine, FailsWithin}

-- nothing was written
pub nothing : (now : Option (List ℕ)) → Appends now now []
nothing None = tt
nothing (Some xs) = sym (append-nil xs)

-- one text after another
pub both : (before mid after : Option (List ℕ)) (x y : List ℕ) → Appends before mid x → Appends mid after y → Appends before after (x ++ y)
both None mid after x y first second = tt
both (Some xs) None after x y first second = absurd first
both (Some xs) (Some ys) None x y first second = absurd second
both (Some xs) (Some ys) (Some zs) x y first second = second ∙ ap (λ l. l ++ y) first ∙ append_assoc xs x y

-- a part of a text is a part of a longer one
pub part_begins : {before after : Option (List ℕ)} {x : List ℕ} (y : List ℕ) → AppendsPart before after x → AppendsPart before after (x ++ y)
part_begins y it = record { part = it.part; rest = it.rest ++ y; whole = ap (λ l. l ++ y) it.whole ∙ append_assoc it.part it.rest y; written = it.written }

-- a part of a second text behind the whole first
pub part_behind : {mid after : Option (List ℕ)} {y : List ℕ} (before : Option (List ℕ)) (x : List ℕ) → Appends before mid x → AppendsPart mid after y → AppendsPart before after (x ++ y)
part_behind {mid} {after} before x first it = record {
  part = x ++ it.part;
  rest = it.rest;
  whole = ap (λ l. x ++ l) it.whole ∙ sym (append_assoc x it.part it.rest);
  written = both before mid after x it.part first it.written;
}

-- whole lines behind whole lines
pub ends_both : (x y : List ℕ) → EndsLine x → EndsLine y → EndsLine (x ++ y)
ends_both [] y first second = second
ends_both (byte ∷ []) [] first second = first
ends_both (byte ∷ []) (next ∷ rest) first second = second
ends_both (byte ∷ next ∷ rest) y first second = ends_both (next ∷ rest) y first second

-- a line feed ends a line, whatever is before it
pub ends_feed : (x : List ℕ) → EndsLine (x ++ (10 ∷ []))
ends_feed [] = refl
ends_feed (byte ∷ []) = refl
ends_feed (byte ∷ next ∷ rest) = ends_feed (next ∷ rest)

-- no line was written
pub no_line : (now : Option (List ℕ)) (text : List ℕ) → AppendsLines now now text
no_line now text = record { part = []; rest = text; whole = refl; ends = tt; written = nothing now }

-- the first lines of a text are those of a longer one
pub lines_begin : {before after : Option (List ℕ)} {x : List ℕ} (y : List ℕ) → AppendsLines before after x → AppendsLines before after (x ++ y)
lines_begin y it = record {
  part = it.part;
  rest = it.rest ++ y;
  whole = ap (λ l. l ++ y) it.whole ∙ append_assoc it.part it.rest y;
  ends = it.ends;
  written = it.written;
}

-- the first lines of a second text behind the whole first, which consists of lines
pub lines_behind : {mid after : Option (List ℕ)} {y : List ℕ} (before : Option (List ℕ)) (x : List ℕ) → EndsLine x → Appends before mid x → AppendsLines mid after y
    → AppendsLines before after (x ++ y)
lines_behind {mid} {after} before x lines first it = record {
  part = x ++ it.part;
  rest = it.rest;
  whole = ap (λ l. x ++ l) it.whole ∙ sym (append_assoc x it.part it.rest);
  ends = ends_both x it.part lines it.ends;
  written = both before mid after x it.part first it.written;
}

-- what a failed write took is a first part
pub part_taken : (before after : Option (List ℕ)) (text : List ℕ) → TakesPart before after text → AppendsPart before after text
part_taken before after text it = record { part = take it.0 text; rest = drop it.0 text; whole = sym (take-append-drop it.0 text); written = it.2 }

pub failure_begins : {before after : Option (List ℕ)} {f g : ℕ} {x : List ℕ} (y : List ℕ) → FailsWithin before after f g x → FailsWithin before after f g (x ++ y)
failure_begins y it = record { part = part_begins y it.part; rose = it.rose }

pub failure_behind : {mid after : Option (List ℕ)} {fm g : ℕ} {y : List ℕ} (before : Option (List ℕ)) (f : ℕ) (x : List ℕ)
    → Appends before mid x → fm ≡ f → FailsWithin mid after fm g y → FailsWithin before after f g (x ++ y)
failure_behind {g = g} before f x first unfailed it =
    record { part = part_behind before x first it.part; rose = subst (λ (k : ℕ). Rose k g) unfailed it.rose }
