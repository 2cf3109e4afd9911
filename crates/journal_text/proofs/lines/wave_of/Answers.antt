use Rattle.std.proofs.Common.{◌<◌, ◌≤◌, sym, subst, arith}
use Rattle.journal_text.specs.Reading.{IsWaveRead}
use Rattle.journal_text.proofs.LineReading.{no_stream_number, no_wave_number, no_stream, no_wave, wave_read}
use Rattle.journal_text.proofs.lines.wave_of.Goals as goal

pub returns-in_err-stream-2 : goal.returns-in_err-stream-2
returns-in_err-stream-2 c =
    subst (IsWaveRead c.args.plan.now c.args.text.now) (sym c.from_residual-in_err-stream-2.ensures)
    (no_stream_number c.args.plan.now c.invariant.ensures c.args.text.now c.in_ok-stream.stream.now c.in_ok-stream.wave.now c.in_ok-stream.ensures.0 c.in_ok-stream.ensures.1 c.in_err-stream-2.ensures)

pub returns-in_err-wave : goal.returns-in_err-wave
returns-in_err-wave c =
    subst (IsWaveRead c.args.plan.now c.args.text.now) (sym c.from_residual-in_err-wave.ensures)
    (no_wave_number c.args.plan.now c.invariant.ensures c.args.text.now c.in_ok-stream.stream.now c.in_ok-stream.wave.now c.in_ok-stream.ensures.0 c.in_ok-stream.ensures.1 c.in_err-wave.ensures)

pub returns-in_err-known : goal.returns-in_err-known
returns-in_err-known c =
    subst (IsWaveRead c.args.plan.now c.args.text.now) (sym c.from_residual-in_err-known.ensures)
    (no_stream c.args.plan.now c.invariant.ensures c.args.text.now c.in_ok-stream.stream.now c.in_ok-stream.wave.now c.in_ok-stream.ensures.0 c.in_ok-stream.ensures.1 c.in_ok-stream-2.stream c.in_ok-wave.wave (omega arith) (omega arith) c.in_ok-stream-2.ensures c.in_ok-wave.ensures c.in_err-known.ensures)

pub returns-then-wave-waves : goal.returns-then-wave-waves
returns-then-wave-waves c =
    let before : c.in_ok-wave.wave < c.in_ok-known.known.now.waves = subst (λ k. c.in_ok-wave.wave < k) c.waves.ensures c.if-wave-waves.true in
    wave_read c.args.plan.now c.invariant.ensures c.args.text.now c.in_ok-stream.stream.now c.in_ok-stream.wave.now c.in_ok-stream.ensures.0 c.in_ok-stream.ensures.1 c.in_ok-stream-2.stream c.in_ok-wave.wave (omega arith) (omega arith) c.in_ok-stream-2.ensures c.in_ok-wave.ensures c.in_ok-known.known.now c.in_ok-known.ensures before

pub returns-else-wave-waves : goal.returns-else-wave-waves
returns-else-wave-waves c =
    let late : c.in_ok-known.known.now.waves ≤ c.in_ok-wave.wave = subst (λ k. k ≤ c.in_ok-wave.wave) c.waves.ensures c.if-wave-waves.false in
    no_wave c.args.plan.now c.invariant.ensures c.args.text.now c.in_ok-stream.stream.now c.in_ok-stream.wave.now c.in_ok-stream.ensures.0 c.in_ok-stream.ensures.1 c.in_ok-stream-2.stream c.in_ok-wave.wave (omega arith) (omega arith) c.in_ok-stream-2.ensures c.in_ok-wave.ensures c.in_ok-known.known.now c.in_ok-known.ensures late
