use Rattle.std.proofs.Common.{◌≡◌, ◌∙◌, ap, sym, subst}
use Rattle.std.specs.Prelude.{map, string_bytes}
use Rattle.std.specs.Io.KnownBytes.{append_known}
use Rattle.run_replies.specs.Answers.{Ends}
use Rattle.run_replies.specs.Words.{asked, seen}
use Rattle.run_replies.specs.declared.status.Status.TheVariants.{ReadFault}
use Rattle.replay_run.specs.Replies.{reply}
use Rattle.replay.specs.Gathered.{BeginsWith, PassesOn, is_write_fault}
use Rattle.replay.proofs.Ending.{counted, ends_passed, if_both, outcomes, read_passed, stays, unread, unwritten}
use Rattle.replay.proofs.starting.run_gathering.Goals as goal

pub returns-clause-ends : goal.returns-clause-ends
returns-clause-ends g c =
    let begins = subst (BeginsWith (g.K.Sink.taken c.into_inner.result)) (sym c.requires) c.into_inner.ensures.begins in
    let passed = subst (λ k. PassesOn (is_write_fault c.run_uncounted-ran.result.status) c.run_uncounted-ran.result.status c.passed_on-status.result c.run_uncounted-ran.new.sink.gathered
    (g.K.Sink.taken c.run_uncounted-ran.new.sink.inner) (g.K.Sink.taken k) (g.K.Sink.faults c.run_uncounted-ran.new.sink.inner) (g.K.Sink.faults k)) (sym c.into_inner.ensures.inner) c.passed_on-status.ensures.passes
    in
    let read : c.run_uncounted-ran.result.status ≡ ReadFault → g.K.Sink.faults c.run_uncounted-ran.new.sink.inner ≡ g.K.Sink.faults c.args.sink =
    λ it. ap (λ k. g.K.Sink.faults k.inner) ((c.run_uncounted-ran.ensures.read_fault it).1 ∙ c.new-gathering.ensures)
    in
    if_both {P = λ asks text. Ends c.run_uncounted-ran.result.status (reply asks text) (append_known (g.K.Sink.taken c.new-gathering.result.inner) c.new-gathering.result.gathered)
    (append_known (g.K.Sink.taken c.run_uncounted-ran.new.sink.inner) c.run_uncounted-ran.new.sink.gathered) (g.K.Sink.faults c.new-gathering.result.inner) (g.K.Sink.faults c.run_uncounted-ran.new.sink.inner)}
    (asked (map string_bytes c.args.words.now)) (λ asks. seen asks (g.S.Source.left c.args.source.now))
    (λ asks text it. ends_passed (reply asks text) (g.K.Sink.taken c.args.sink) _ _ _ (g.K.Sink.faults c.args.sink) _ _ begins _ _ read
    (subst (λ k. Ends c.run_uncounted-ran.result.status (reply asks text) (append_known (g.K.Sink.taken k.inner) k.gathered)
    (append_known (g.K.Sink.taken c.run_uncounted-ran.new.sink.inner) c.run_uncounted-ran.new.sink.gathered) (g.K.Sink.faults k.inner) (g.K.Sink.faults c.run_uncounted-ran.new.sink.inner)) c.new-gathering.ensures it)
    passed)
    c.run_uncounted-ran.ensures.ends

pub returns-clause-read : goal.returns-clause-read
returns-clause-read g c =
    let is = outcomes _ _ _ _ _ _ _ _ c.passed_on-status.ensures.passes in
    let same : c.run_uncounted-ran.new.sink ≡ c.new-gathering.result → c.passed_on-status.result ≡ c.run_uncounted-ran.result.status =
    λ told. (c.passed_on-status.ensures.nothing (ap (λ it. it.gathered) (told ∙ c.new-gathering.ensures))).0
    in
    read_passed _ _ _ _ _ c.run_uncounted-ran.ensures.read is (λ it. stays same (c.run_uncounted-ran.ensures.out_of_memory it)) (λ it. same (c.run_uncounted-ran.ensures.read_fault it).1)
    (λ it. same (c.run_uncounted-ran.ensures.untouched (c.run_uncounted-ran.ensures.usage.0 it)).1)

pub returns-clause-read_fault : goal.returns-clause-read_fault
returns-clause-read_fault g c = λ it.
    let is = outcomes _ _ _ _ _ _ _ _ c.passed_on-status.ensures.passes in
    let told = c.run_uncounted-ran.ensures.read_fault (unread _ _ is it) in
    let same = c.passed_on-status.ensures.nothing (ap (λ it. it.gathered) told.1 ∙ ap (λ it. it.gathered) c.new-gathering.ensures) in
    (told.0, c.into_inner.ensures.inner ∙ ap (λ it. it.inner) (same.1 ∙ told.1 ∙ c.new-gathering.ensures))

pub returns-clause-unfailed_read : goal.returns-clause-unfailed_read
returns-clause-unfailed_read g c = λ other. c.run_uncounted-ran.ensures.unfailed_read (λ it.
    let told = c.run_uncounted-ran.ensures.read_fault it in
    let same = c.passed_on-status.ensures.nothing (ap (λ it. it.gathered) told.1 ∙ ap (λ it. it.gathered) c.new-gathering.ensures) in
    other (same.0 ∙ it))

pub returns-clause-unfailed_write : goal.returns-clause-unfailed_write
returns-clause-unfailed_write g c = λ other.
    let is = outcomes _ _ _ _ _ _ _ _ c.passed_on-status.ensures.passes in
    let kept = counted _ _ _ _ _ _ _ _ c.passed_on-status.ensures.passes other in
    let ran = c.run_uncounted-ran.ensures.unfailed_write (λ it. other (unwritten _ _ is it)) in
    ap g.K.Sink.faults c.into_inner.ensures.inner ∙ kept ∙ ran ∙ ap (λ it. g.K.Sink.faults it.inner) c.new-gathering.ensures
