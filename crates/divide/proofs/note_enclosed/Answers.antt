-- `divide::note_enclosed` meets its contract: the cells are gathered, noted and left.
-- Assumes nothing.
use Rattle.divide.proofs.Gathered.{can_gather, enclosed_made}
use Rattle.divide.proofs.note_enclosed.Goals as goal

pub gather-n-requires : goal.gather-n-requires
gather-n-requires c =
    can_gather c.requires
    c.split_number-outlet.ensures

pub returns : goal.returns
returns c =
    enclosed_made c.requires c.split_number-outlet.ensures
    c.gather-n.ensures c.note_cells.ensures c.leave_cells.ensures
