use Rattle.si_session.proofs.session.Session.new.Goals as goal

pub returns : goal.returns
returns c =
    let empty = c.in_ok-new.ensures in
    record {
      empty = λ i. record { clauses = empty.no_clauses i };
      set = λ i. record { limits = c.args.limits.now; rules = empty.ruled i };
      no_keys = empty.no_keys;
      no_numbers = empty.no_numbers;
      literals = empty.literals;
      subterms = empty.subterms;
    }
