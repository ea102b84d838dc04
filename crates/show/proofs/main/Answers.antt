-- What is printed lies within its buffer.
use Rattle.std.proofs.Common.{sym, length-take-le}
use Rattle.shown.proofs.ShownLaws.{shown_within}
use Rattle.show.proofs.main.Goals as goal

pub slice_bounds-out-end : goal.slice_bounds-out-end
slice_bounds-out-end c = shown_within _ _ _ _ c.show_file-len.ensures.value c.show_file-len.ensures.buf_after

pub slice_bounds-write_all-end : goal.slice_bounds-write_all-end
slice_bounds-write_all-end c =
    let p = c.show_file-len in
    sym (length-take-le p.result p.new.buf (shown_within _ _ _ _ p.ensures.value p.ensures.buf_after))
