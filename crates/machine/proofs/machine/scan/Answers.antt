-- `machine::machine::scan` meets its contract: at each of its ways out it answers as the laws of `MachineLaws` say. Assumes nothing.
use mathlib.Core.Path.{◌≡◌, sym, ap, ◌∙◌}
use mathlib.Core.Bool.{true, ◌&&◌}
use Prim.Native.Nat.{ℕ, ◌^◌}
use lib.Dec.{eqb, ltb}
use lib.Bits.{bit_and}
use borrow.Author.Tests.{not-true, not-false}
use Rattle.words.specs.Loop.{word}
use Rattle.scan.specs.declared.set.State.{State}
use Rattle.scan.specs.declared.walk.Walk.{Walk}
use Rattle.scan.specs.declared.walk.Walk.TheVariants.{Never}
use Rattle.machine.specs.declared.machine.ScanAnswer.{ScanAnswer}
use Rattle.machine.specs.declared.machine.ScanAnswer.TheVariants.{BadState, BadSensor, BadRequest, Unsafe}
use Rattle.machine.specs.declared.machine.Scanned.{Scanned}
use Rattle.machine.specs.Past.{sensor_before, read_word}
use Rattle.machine.specs.Machine.{state_ok, is_past, sensor_ok, request_ok, refused, sending, scan_of}
use Rattle.scan.specs.Shape.{well_formed}
use Rattle.scan.specs.Walk.{walk}
use Rattle.scan.proofs.ShapeLaws.{counts}
use Rattle.machine.proofs.MachineLaws.{state_formed, scan_bad_state, scan_bad_sensor, scan_bad_request, scan_word, scan_walks}
use Rattle.machine.proofs.machine.scan.Goals as goal
use Rattle.machine.proofs.machine.scan.Goals.{After-is_sensor_word, After-walk_from, Else-not-fits16, Else-not-is_sensor_word, Else-not-is_state_ok}

-- what `refuse` ensures, as an equation
refuses : (x : Scanned) (st : State) (a : ScanAnswer) → (x.answer ≡ a) × (x.state ≡ st) → x ≡ refused st a
refuses x st a e = λ i. record { answer = e.0 i; state = e.1 i }

-- what is known behind each of the three tests
state_ok_law : (c : Else-not-is_state_ok) → state_ok c.args.state ≡ true
state_ok_law c = sym c.is_state_ok.ensures ∙ not-false c.is_state_ok.result c.if-not-is_state_ok.false-raw

set_formed : (c : Else-not-is_state_ok) → well_formed c.args.state.set ≡ true
set_formed c = state_formed c.args.state (state_ok_law c)

-- the second test looks at the past points that the loop over the read points found
sensor_test : (c : After-is_sensor_word) → let a = c.args in c.is_sensor_word.result ≡ sensor_ok a.state.set a.sensor
unfolding sensor_ok
sensor_test c =
    let p = c in
    let a = p.args in
    let s = a.state.set in
    let past : p.read_points-read.result.past ≡ word s.r (is_past s) = p.read_points-read.ensures.0 in
    let test : c.is_sensor_word.result ≡ (ltb a.sensor (2 ^ s.r) && eqb (bit_and a.sensor p.read_points-read.result.past) 0) = c.is_sensor_word.ensures in
    test ∙ ap (λ (x : ℕ). ltb a.sensor (2 ^ s.r) && eqb (bit_and a.sensor x) 0) past

sensor_ok_fact : (c : Else-not-is_sensor_word) → let a = c.args in sensor_ok a.state.set a.sensor ≡ true
sensor_ok_fact c = sym (sensor_test c.before) ∙ not-false c.is_sensor_word.result c.if-not-is_sensor_word.false-raw

request_ok_fact : (c : Else-not-fits16) → let a = c.args in request_ok a.state.set a.request ≡ true
unfolding request_ok
request_ok_fact c = sym c.fits16.ensures ∙ not-false c.fits16.result c.if-not-fits16.false-raw

-- behind all three, at a walk that ends at x
walked : (c : After-walk_from) → let a = c.args in (x : Walk)
    → c.walk_from.result ≡ x → sending a.state a.sensor x ≡ scan_of a.state a.sensor a.request
walked c x e =
    let e3 = c in
    let e2 = e3 in
    let p = e2 in
    let b = p in
    let e1 = b in
    let a = e1.args in
    let read : p.read_points-read.result.word ≡ read_word a.state.set a.state.past_output b.sensor_before-past.result a.sensor = p.read_points-read.ensures.1 in
    let before : b.sensor_before-past.result ≡ sensor_before a.state.accepted a.state.past_sensor a.sensor = b.sensor_before-past.ensures in
    let all : p.read_points-read.result.word ≡ scan_word a.state a.sensor a.request =
    read ∙ ap (λ (y : ℕ). read_word a.state.set a.state.past_output y a.sensor) before in
    let ends : c.walk_from.result ≡ walk a.state.set p.read_points-read.result.word a.request = c.walk_from.ensures in
    ap (sending a.state a.sensor) (sym e ∙ ends ∙ ap (λ (w : ℕ). walk a.state.set w a.request) all)
    ∙ sym (scan_walks a.state a.sensor a.request (state_ok_law c.before.before.before.before.before.before.before.before.before) (sensor_ok_fact c.before.before.before.before) (request_ok_fact c.before.before))

pub returns-then-not-is_state_ok : goal.returns-then-not-is_state_ok
returns-then-not-is_state_ok c =
    let b = c in
    let a = b.args in
    refuses c.refuse.result a.state BadState c.refuse.ensures
    ∙ sym (scan_bad_state a.state a.sensor a.request (sym b.is_state_ok.ensures ∙ not-true b.is_state_ok.result c.if-not-is_state_ok.true-raw))

pub read_points-read-requires : goal.read_points-read-requires
read_points-read-requires c =
    let e1 = c in
    (counts e1.args.state.set (set_formed (goal.at.read_points-read-requires c).Else-not-is_state_ok)).r_le

pub returns-then-not-is_sensor_word : goal.returns-then-not-is_sensor_word
returns-then-not-is_sensor_word c =
    let b = c in
    let e1 = b in
    let a = e1.args in
    refuses c.refuse-then-not-is_sensor_word.result a.state BadSensor c.refuse-then-not-is_sensor_word.ensures
    ∙ sym (scan_bad_sensor a.state a.sensor a.request (state_ok_law (goal.at.returns-then-not-is_sensor_word c).Else-not-is_state_ok)
    (sym (sensor_test (goal.at.returns-then-not-is_sensor_word c).After-is_sensor_word) ∙ not-true b.is_sensor_word.result c.if-not-is_sensor_word.true-raw))

pub returns-then-not-fits16 : goal.returns-then-not-fits16
unfolding request_ok
returns-then-not-fits16 c =
    let f = c in
    let e2 = f in
    let e1 = e2 in
    let a = e1.args in
    refuses c.refuse-then-not-fits16.result a.state BadRequest c.refuse-then-not-fits16.ensures
    ∙ sym (scan_bad_request a.state a.sensor a.request (state_ok_law (goal.at.returns-then-not-fits16 c).Else-not-is_state_ok) (sensor_ok_fact (goal.at.returns-then-not-fits16 c).Else-not-is_sensor_word)
    (sym f.fits16.ensures ∙ not-true f.fits16.result c.if-not-fits16.true-raw))

pub walk_from-requires : goal.walk_from-requires
walk_from-requires c = set_formed (goal.at.walk_from-requires c).Else-not-is_state_ok

pub returns-in-Safe : goal.returns-in-Safe
returns-in-Safe c = walked (goal.at.returns-in-Safe c).After-walk_from _ c.in-Safe.is

pub returns-in-Never : goal.returns-in-Never
returns-in-Never c =
    let w = c in
    let a = w.args in
    refuses c.refuse-in-Never.result a.state Unsafe c.refuse-in-Never.ensures ∙ walked (goal.at.returns-in-Never c).After-walk_from Never c.in-Never.is
