use Rattle.kept_findings.proofs.Rooms.{room_none, room_roomier, room_element, room_document, room_registered, room_forgotten, room_expired, room_looked, room_same}
use Rattle.kept_findings.proofs.laws.room_stays.Goals as goal

pub returns-clause-none : goal.returns-clause-none
returns-clause-none c = room_none

pub returns-clause-roomier : goal.returns-clause-roomier
returns-clause-roomier c = room_roomier

pub returns-clause-element : goal.returns-clause-element
returns-clause-element c = room_element

pub returns-clause-document : goal.returns-clause-document
returns-clause-document c = room_document

pub returns-clause-registered : goal.returns-clause-registered
returns-clause-registered c = room_registered

pub returns-clause-forgotten : goal.returns-clause-forgotten
returns-clause-forgotten c = room_forgotten

pub returns-clause-expired : goal.returns-clause-expired
returns-clause-expired c = room_expired

pub returns-clause-looked : goal.returns-clause-looked
returns-clause-looked c = λ scene elements documents. room_looked elements documents scene

pub returns-clause-same : goal.returns-clause-same
returns-clause-same c = room_same
