-- Byte by byte.
use Rattle.{std.proofs.Common.{inl, length, arith, ap, refl, sym, true≢false, ◌∙◌}, koth_session.specs.Inbox.is_met, koth_session.proofs.Readings.{byte_read, emptied, read_to, unmet}}
use Rattle.koth_session.proofs.inbox.Inbox.read_on.Goals as goal

pub bytes-init : goal.bytes-init
bytes-init g c = record {
  reads = λ reader came done followed. followed;
  few = omega arith;
  fewer = λ none met. absurd (true≢false (sym met ∙ none));
  due = λ met. refl;
  source = λ met. refl;
}

pub bytes-preserved : goal.bytes-preserved
bytes-preserved g c =
    let size = ap length c.in-Some.ensures in record {
      reads = λ reader came done followed.
          byte_read c.bytes.self _ c.in-Some.byte (unmet c.bytes.self.due (sym c.is_met.ensures ∙ c.bytes-test.true)) c.in-Some.ensures refl c.take-self.ensures reader came done
          (c.bytes.invariant.reads reader came done followed);
      few = omega (arith, c.bytes.invariant.few, size);
      fewer = λ none met. omega (arith, c.bytes.invariant.few, size);
      due = λ met. absurd (true≢false (sym met ∙ sym (ap is_met (c.bytes.invariant.due met)) ∙ sym c.is_met.ensures ∙ c.bytes-test.true));
      source = λ met. absurd (true≢false (sym met ∙ sym (ap is_met (c.bytes.invariant.due met)) ∙ sym c.is_met.ensures ∙ c.bytes-test.true));
    }

pub returns-in-None-clause-reads : goal.returns-in-None-clause-reads
returns-in-None-clause-reads g c = λ reader came done followed.
    emptied c.bytes.self _ refl refl refl c.in-None.ensures.0 c.in-None.ensures.1 reader came done (c.bytes.invariant.reads reader came done followed)

pub returns-in-None-clause-fewer : goal.returns-in-None-clause-fewer
returns-in-None-clause-fewer g c = λ none met. absurd (true≢false (sym met ∙ sym c.is_met.ensures ∙ c.bytes-test.true))

pub returns-clause-reads : goal.returns-clause-reads
returns-clause-reads g c = λ reader came done followed.
    read_to c.bytes.self (inl (sym c.is_met.ensures ∙ c.bytes-test.false)) reader came done (c.bytes.invariant.reads reader came done followed)

pub returns-clause-fewer : goal.returns-clause-fewer
returns-clause-fewer g c = c.bytes.invariant.fewer

pub returns-in-None-clause-due : goal.returns-in-None-clause-due
returns-in-None-clause-due g c = c.bytes.invariant.due

pub returns-in-None-clause-source : goal.returns-in-None-clause-source
returns-in-None-clause-source g c = c.bytes.invariant.source

pub returns-clause-due : goal.returns-clause-due
returns-clause-due g c = c.bytes.invariant.due

pub returns-clause-source : goal.returns-clause-source
returns-clause-source g c = c.bytes.invariant.source
