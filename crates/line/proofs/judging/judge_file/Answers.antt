-- `line::judging::judge_file` meets its contract: the line of the refusal, or of the verdict on the loaded set. Assumes nothing.
use mathlib.Core.Path.{refl}
use lib.ListN.{length}
use Rattle.line.proofs.LineLaws.{file_judged, file_refused, judged_scratch}
use Rattle.line.proofs.judging.judge_file.Goals as goal

pub returns-in-Loaded : goal.returns-in-Loaded
returns-in-Loaded c =
    let j = c in
    let t = j in
    let f = t in
    let a = f.args in record {
      value = file_judged a.file.now (length a.scratch.now) f.load-loaded.result f.load-loaded.ensures t.in-Loaded.is
          j.judge.result j.judge.ensures.value c.verdict_line.result c.verdict_line.ensures;
      scratch_unchanged = judged_scratch a.file.now (length a.scratch.now) f.load-loaded.result f.load-loaded.ensures t.in-Loaded.is a.scratch.now _ j.judge.ensures.scratch_unchanged;
    }

pub returns-in-Refused : goal.returns-in-Refused
returns-in-Refused c =
    let k = c in
    let f = k in
    let a = f.args in
    record { value = file_refused a.file.now (length a.scratch.now) f.load-loaded.result f.load-loaded.ensures _ _ k.in-Refused.is; scratch_unchanged = refl }
