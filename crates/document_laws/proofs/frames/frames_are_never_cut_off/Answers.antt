-- From each Active document the way leads up to `top`, past each document at most once.
use Rattle.document_laws.proofs.Showing.{views_whole, origins_whole}
use Rattle.document_laws.proofs.Leading.{active_whole, fresh_whole}
use Rattle.document_laws.proofs.frames.frames_are_never_cut_off.Goals as goal

pub returns-clause-views : goal.returns-clause-views
returns-clause-views c = λ tree levels most screen document enough. views_whole tree screen levels most document enough

pub returns-clause-origins : goal.returns-clause-origins
returns-clause-origins c = origins_whole

pub returns-clause-active : goal.returns-clause-active
returns-clause-active c = active_whole

pub returns-clause-fresh : goal.returns-clause-fresh
returns-clause-fresh c = fresh_whole
