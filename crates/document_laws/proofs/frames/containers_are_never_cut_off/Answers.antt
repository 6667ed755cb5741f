-- Each step outwards goes one level up, or from a document to the frame around it.
use Rattle.document_laws.proofs.Chains.{boxed_stands, containers_whole}
use Rattle.document_laws.proofs.frames.containers_are_never_cut_off.Goals as goal

pub returns-clause-boxes : goal.returns-clause-boxes
returns-clause-boxes c = boxed_stands

pub returns-clause-containers : goal.returns-clause-containers
returns-clause-containers c = λ tree levels most n is enough. containers_whole tree levels most n is enough
