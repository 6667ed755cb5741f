-- Gathered bytes that are passed on, piece by piece.
use Rattle.std.proofs.Common.{◌≡◌, ◌∙◌, ◌+◌, ◌-◌, ◌≤◌, ℕ, List, ◌++◌, length, take, drop, Option, Some, None, ap, sym, subst, arith, length-drop, take_all, take-append-drop}
use Rattle.std.specs.Prelude.{Result, Ok, Err, OnErr}
use Rattle.std.proofs.Math.Seq.{take-add}
use Rattle.std.proofs.lemmas.List.{drop-append-le, drop-drop, take-append-le}
use Rattle.std.proofs.Transfers.{starts_with_length}
use Rattle.std.proofs.KnownBytes.{Appends-trans, append_known-grown, append_known-moved}
use Rattle.std.specs.Io.KnownBytes.{Appends, Keeps, WriteAppends, append_known}
use Rattle.trace_runs.specs.Writes.{AppendsPart}
use Rattle.replay.specs.Gathered.{BeginsWith}

rest : (xs : List ℕ) (first at : ℕ) → first ≤ at → drop (at - first) (drop first xs) ≡ drop at xs
rest xs first at later = drop-drop (at - first) first xs ∙ ap (λ n. drop n xs) (let same : first + (at - first) ≡ at = omega (arith, later) in same)

pub took_more : (a b c : Option (List ℕ)) (xs ys : List ℕ) (first at n : ℕ) → ys ≡ xs → first ≤ at → Appends a b (take (at - first) (drop first xs))
    → Appends b c (take n (take (length ys - at) (drop at ys))) → Appends a c (take (at + n - first) (drop first xs))
took_more a b c xs ys first at n same later before next =
    let count : at + n - first ≡ at - first + n = omega (arith, later) in
    let all : take (length ys - at) (drop at ys) ≡ drop (at - first) (drop first xs) =
    take_all (length ys - at) (drop at ys) (omega (arith, length-drop at ys)) ∙ ap (drop at) same ∙ sym (rest xs first at later)
    in
    let next_there : Appends b c (take n (drop (at - first) (drop first xs))) = subst (λ zs. Appends b c (take n zs)) all next in
    subst (Appends a c) (sym (ap (λ k. take k (drop first xs)) count ∙ take-add (at - first) n (drop first xs))) (Appends-trans a b c _ _ before next_there)

pub kept_there : (a b : Option (List ℕ)) (xs : List ℕ) (first at : ℕ) → first ≤ at → Appends a b (take (at - first) (drop first xs))
    → Keeps (append_known a (drop first xs)) (append_known b (drop at xs))
kept_there a b xs first at later before =
    append_known-moved a b (take (at - first) (drop first xs)) (drop at xs) (drop first xs) before
    (sym (take-append-drop (at - first) (drop first xs)) ∙ ap (λ ys. take (at - first) (drop first xs) ++ ys) (rest xs first at later))

pub part_there : (a b : Option (List ℕ)) (xs : List ℕ) (n : ℕ) → Appends a b (take n xs) → AppendsPart a b xs
part_there a b xs n before = record { part = take n xs; rest = drop n xs; whole = sym (take-append-drop n xs); written = before }

front_more : (xs bs first : List ℕ) → take (length first) xs ≡ first → take (length first) (xs ++ bs) ≡ first
front_more xs bs first is = take-append-le (length first) xs bs (starts_with_length xs first is) ∙ is

pub begins_more : (before b c : Option (List ℕ)) (bs : List ℕ) → BeginsWith b before → Appends b c bs → BeginsWith c before
begins_more None b c bs begins more = tt
begins_more (Some first) None c bs begins more = absurd (cc begins)
begins_more (Some first) (Some xs) None bs begins more = absurd more
begins_more (Some first) (Some xs) (Some ys) bs begins more =
    let is : take (length first) xs ≡ first = cc begins in ap Some (ap (take (length first)) more ∙ front_more xs bs first is)

pub on_err : {A E : Type 0} {P : Type 0} (result : Result A E) → P → OnErr result P
on_err (Ok value) p = tt
on_err (Err refused) p = p

pub begins_kept : (before b c : Option (List ℕ)) → BeginsWith b before → Keeps b c → BeginsWith c before
begins_kept None b c begins kept = tt
begins_kept (Some first) None c begins kept = absurd (let no : ⊥ = cc begins in no)
begins_kept (Some first) (Some xs) None begins kept = absurd kept
begins_kept (Some first) (Some xs) (Some ys) begins kept = ap Some (ap (take (length first)) kept) ∙ begins

pub begins_written : {E : Type 0} (before b c : Option (List ℕ)) (result : Result ℕ E) (piece : List ℕ) → BeginsWith b before → WriteAppends b c result piece → BeginsWith c before
begins_written before b c (Ok n) piece begins wrote = begins_more before b c (take n piece) begins wrote
begins_written before b c (Err failed) piece begins kept = begins_kept before b c begins kept

-- a piece behind what is gathered
pub gathered_more : (a b : Option (List ℕ)) (xs piece all : List ℕ) (passed : ℕ) → Keeps a (append_known b (drop passed xs)) → all ≡ xs ++ piece → passed ≤ length xs
    → Appends a (append_known b (drop passed all)) (take (length piece) piece)
gathered_more a b xs piece all passed kept are within =
    subst (Appends a (append_known b (drop passed all))) (sym (take_all (length piece) piece (omega arith)))
    (append_known-grown a b (drop passed xs) (drop passed all) piece kept (ap (drop passed) are ∙ drop-append-le passed xs piece within))
