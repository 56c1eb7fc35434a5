-- `arrivals::arrive` meets its contract by one of the three ways. Assumes nothing.
use Rattle.meeting.proofs.Leading.{fits-is}
use Rattle.arrivals.proofs.arrive.Goals as goal

pub returns-then-suffices : goal.returns-then-suffices
returns-then-suffices c = (fits-is c.meet_all.ensures, c.requires.1)
