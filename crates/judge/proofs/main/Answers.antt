-- The line that is printed lies within its buffer.
use Rattle.std.proofs.Common.{sym, length-take-le}
use Rattle.line.proofs.LineLaws.{answer_within}
use Rattle.judge.proofs.main.Goals as goal

pub slice_bounds-out-end : goal.slice_bounds-out-end
slice_bounds-out-end c = answer_within _ _ _ _ c.put_line-len.ensures.value c.put_line-len.ensures.buf_after

pub slice_bounds-write_all-end : goal.slice_bounds-write_all-end
slice_bounds-write_all-end c =
    let p = c.put_line-len in
    sym (length-take-le p.result p.new.buf (answer_within _ _ _ _ p.ensures.value p.ensures.buf_after))
