-- `main`: what is written lies within the buffer. Assumes nothing.
use Rattle.map.proofs.Rendering.{within-buffer, whole_part}
use Rattle.map.proofs.main.Goals as goal

pub slice_bounds-out-end : goal.slice_bounds-out-end
slice_bounds-out-end c = search within-buffer

pub slice_bounds-write_all-end : goal.slice_bounds-write_all-end
slice_bounds-write_all-end c = search whole_part
