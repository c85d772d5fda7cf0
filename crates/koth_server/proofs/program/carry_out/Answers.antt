-- What a run promises for its arguments, from how its request ended, or from why there is none.
use Rattle.{std.proofs.Common.{None, codes, map, string_bytes}, koth_words.specs.Words.given_by, koth_server.proofs.Carried.{carried, fault_without, help_without, without, words_without, wrong_without}}
use Rattle.koth_server.proofs.program.carry_out.Goals as goal

pub returns-in-Ok : goal.returns-in-Ok
returns-in-Ok g c = record {
  ends = record {
    asm = λ asks. carried _ _ _ _ _ _ (codes "asm") c.in-Ok.ensures.request c.fulfil.ensures asks.1;
    check = λ asks. carried _ _ _ _ _ _ (codes "check") c.in-Ok.ensures.request c.fulfil.ensures asks.1;
    fight = λ asks. carried _ _ _ _ _ _ (codes "fight") c.in-Ok.ensures.request c.fulfil.ensures asks.1;
    create = λ asks. carried _ _ _ _ _ _ (codes "create") c.in-Ok.ensures.request c.fulfil.ensures asks.1;
    submit = λ asks. carried _ _ _ _ _ _ (codes "submit") c.in-Ok.ensures.request c.fulfil.ensures asks.1;
    show = λ asks. carried _ _ _ _ _ _ (codes "show") c.in-Ok.ensures.request c.fulfil.ensures asks.1;
    audit = λ asks. carried _ _ _ _ _ _ (codes "audit") c.in-Ok.ensures.request c.fulfil.ensures asks.1;
    migrate = λ asks. carried _ _ _ _ _ _ (codes "migrate") c.in-Ok.ensures.request c.fulfil.ensures asks.1;
    page = λ asks. carried _ _ _ _ _ _ (codes "page") c.in-Ok.ensures.request c.fulfil.ensures asks.1;
    serve = λ asks. carried _ _ _ _ _ _ (codes "serve") c.in-Ok.ensures.request c.fulfil.ensures asks.1;
    session = λ asks. carried _ _ _ _ _ _ (codes "session") c.in-Ok.ensures.request c.fulfil.ensures asks.1;
    replay = λ asks. carried _ _ _ _ _ _ (codes "replay") c.in-Ok.ensures.request c.fulfil.ensures asks.1;
    trace = λ asks. carried _ _ _ _ _ _ (codes "trace") c.in-Ok.ensures.request c.fulfil.ensures asks.1;
    trial = λ asks. carried _ _ _ _ _ _ (codes "try") c.in-Ok.ensures.request c.fulfil.ensures asks.1;
    copy = λ asks. carried _ _ _ _ _ _ (codes "copy") c.in-Ok.ensures.request c.fulfil.ensures asks.1;
    reseed = λ asks. carried _ _ _ _ _ _ (codes "reseed") c.in-Ok.ensures.request c.fulfil.ensures asks.1;
    rank = λ asks. carried _ _ _ _ _ _ (codes "rank") c.in-Ok.ensures.request c.fulfil.ensures asks.1;
    explain = λ asks. carried _ _ _ _ _ _ (codes "explain") c.in-Ok.ensures.request c.fulfil.ensures asks.1;
    words = λ taken. c.fulfil.ensures.1;
    wrong = λ wrong. absurd (c.in-Ok.ensures.wrong wrong);
    help = λ asks. absurd (c.in-Ok.ensures.help asks);
    word_fault = λ is. absurd (c.fulfil.ensures.1 is);
  };
}

pub returns-in-Err : goal.returns-in-Err
returns-in-Err g c =
    let input = g.I.Read.remaining c.args.input.now in
    let o = g.O.Write.contents c.args.output.now in
    let p = g.O.Write.contents c.answer_without.new.output in
    let e = g.E.Write.contents c.args.errors.now in
    let f = g.E.Write.contents c.answer_without.new.errors in
    let status = c.answer_without.result in
    let none = c.in-Err.none in
    let view = c.args.view in
    let given = given_by (map (λ w. string_bytes w) c.args.words.now) in
    record {
      ends = record {
        asm = λ asks. without input o p e f status (codes "asm") view given none (c.in-Err.ensures.taken asks.0) c.answer_without.ensures;
        check = λ asks. without input o p e f status (codes "check") view given none (c.in-Err.ensures.taken asks.0) c.answer_without.ensures;
        fight = λ asks. without input o p e f status (codes "fight") view given none (c.in-Err.ensures.taken asks.0) c.answer_without.ensures;
        create = λ asks. without input o p e f status (codes "create") view given none (c.in-Err.ensures.taken asks.0) c.answer_without.ensures;
        submit = λ asks. without input o p e f status (codes "submit") view given none (c.in-Err.ensures.taken asks.0) c.answer_without.ensures;
        show = λ asks. without None o p e f status (codes "show") view given none (c.in-Err.ensures.taken asks.0) c.answer_without.ensures;
        audit = λ asks. without None o p e f status (codes "audit") view given none (c.in-Err.ensures.taken asks.0) c.answer_without.ensures;
        migrate = λ asks. without None o p e f status (codes "migrate") view given none (c.in-Err.ensures.taken asks.0) c.answer_without.ensures;
        page = λ asks. without None o p e f status (codes "page") view given none (c.in-Err.ensures.taken asks.0) c.answer_without.ensures;
        serve = λ asks. without None o p e f status (codes "serve") view given none (c.in-Err.ensures.taken asks.0) c.answer_without.ensures;
        session = λ asks. without input o p e f status (codes "session") view given none (c.in-Err.ensures.taken asks.0) c.answer_without.ensures;
        replay = λ asks. without input o p e f status (codes "replay") view given none (c.in-Err.ensures.taken asks.0) c.answer_without.ensures;
        trace = λ asks. without input o p e f status (codes "trace") view given none (c.in-Err.ensures.taken asks.0) c.answer_without.ensures;
        trial = λ asks. without input o p e f status (codes "try") view given none (c.in-Err.ensures.taken asks.0) c.answer_without.ensures;
        copy = λ asks. without None o p e f status (codes "copy") view given none (c.in-Err.ensures.taken asks.0) c.answer_without.ensures;
        reseed = λ asks. without None o p e f status (codes "reseed") view given none (c.in-Err.ensures.taken asks.0) c.answer_without.ensures;
        rank = λ asks. without input o p e f status (codes "rank") view given none (c.in-Err.ensures.taken asks.0) c.answer_without.ensures;
        explain = λ asks. without None o p e f status (codes "explain") view given none (c.in-Err.ensures.taken asks.0) c.answer_without.ensures;
        words = λ taken. words_without None o p e f status none (c.in-Err.ensures.taken taken) c.answer_without.ensures;
        wrong = λ wrong. wrong_without None o p e f status none (c.in-Err.ensures.wrong wrong) c.answer_without.ensures;
        help = λ asks. help_without None o p e f status none (c.in-Err.ensures.help asks) c.answer_without.ensures;
        word_fault = λ is. fault_without input o p e f status none c.answer_without.ensures is;
      };
    }
