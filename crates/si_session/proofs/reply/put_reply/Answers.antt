use Rattle.std.proofs.Common.{ap, sym, subst}
use Rattle.si_io.specs.Sends.{Sends}
use Rattle.si_session.specs.Replies.{closed_line}
use Rattle.si_session.proofs.ReplyTexts.{ok_text, stats_line_is, sample_reported, explained_reported, misused_is, full_text, file_reported, line_reported}
use Rattle.si_session.proofs.reply.put_reply.Goals as goal

pub returns-in-Ok : goal.returns-in-Ok
returns-in-Ok g c =
    subst (λ t. Sends c.put_counts.result t (g.K.Sink.shown c.args.sink.now) (g.K.Sink.shown c.put_counts.new.sink))
    (ok_text c.args.reply c.in-Ok.clauses c.in-Ok.entries c.in-Ok.is) c.put_counts.ensures

pub returns-in-Taken : goal.returns-in-Taken
unfolding closed_line
returns-in-Taken g c =
    subst (λ t. Sends c.put_named.result t (g.K.Sink.shown c.args.sink.now) (g.K.Sink.shown c.put_named.new.sink)) (ap closed_line (sym c.in-Taken.is)) c.put_named.ensures

pub returns-in-File : goal.returns-in-File
returns-in-File g c =
    subst (λ t. Sends c.put_filed.result t (g.K.Sink.shown c.args.sink.now) (g.K.Sink.shown c.put_filed.new.sink))
    (file_reported c.args.reply c.in-File.fault c.in-File.file _ _ c.in-File.is c.file_word.ensures c.as_bytes.ensures) c.put_filed.ensures

pub returns-in-Line : goal.returns-in-Line
returns-in-Line g c =
    subst (λ t. Sends c.put_lined.result t (g.K.Sink.shown c.args.sink.now) (g.K.Sink.shown c.put_lined.new.sink))
    (line_reported c.args.reply c.in-Line.fault c.in-Line.file c.in-Line.line _ _ c.in-Line.is c.line_word.ensures c.as_bytes-in-Line.ensures) c.put_lined.ensures

pub returns-in-Fetches : goal.returns-in-Fetches
unfolding closed_line
returns-in-Fetches g c =
    subst (λ t. Sends c.put_bytes.result t (g.K.Sink.shown c.args.sink.now) (g.K.Sink.shown c.put_bytes.new.sink)) (ap closed_line (sym c.in-Fetches.is)) c.put_bytes.ensures

pub returns-in-Long : goal.returns-in-Long
unfolding closed_line
returns-in-Long g c =
    subst (λ t. Sends c.put_bytes-in-Long.result t (g.K.Sink.shown c.args.sink.now) ((g.K.Sink.shown c.put_bytes-in-Long.new.sink))) (ap closed_line (sym c.in-Long.is)) c.put_bytes-in-Long.ensures

pub returns-in-Language : goal.returns-in-Language
unfolding closed_line
returns-in-Language g c =
    subst (λ t. Sends c.put_bytes-in-Language.result t (g.K.Sink.shown c.args.sink.now) ((g.K.Sink.shown c.put_bytes-in-Language.new.sink))) (ap closed_line (sym c.in-Language.is))
    c.put_bytes-in-Language.ensures

pub returns-in-Syntax : goal.returns-in-Syntax
unfolding closed_line
returns-in-Syntax g c =
    subst (λ t. Sends c.put_bytes-in-Syntax.result t (g.K.Sink.shown c.args.sink.now) ((g.K.Sink.shown c.put_bytes-in-Syntax.new.sink))) (ap closed_line (sym c.in-Syntax.is))
    c.put_bytes-in-Syntax.ensures

pub returns-in-Memory : goal.returns-in-Memory
unfolding closed_line
returns-in-Memory g c =
    subst (λ t. Sends c.put_bytes-in-Memory.result t (g.K.Sink.shown c.args.sink.now) ((g.K.Sink.shown c.put_bytes-in-Memory.new.sink))) (ap closed_line (sym c.in-Memory.is))
    c.put_bytes-in-Memory.ensures

pub returns-in-Stats : goal.returns-in-Stats
returns-in-Stats g c =
    subst (λ t. Sends c.put_stats.result t (g.K.Sink.shown c.args.sink.now) (g.K.Sink.shown c.put_stats.new.sink))
    (stats_line_is c.args.reply c.in-Stats.stats c.in-Stats.is) c.put_stats.ensures

pub returns-in-Misused : goal.returns-in-Misused
returns-in-Misused g c =
    subst (λ t. Sends c.put_misused.result t (g.K.Sink.shown c.args.sink.now) (g.K.Sink.shown c.put_misused.new.sink))
    (misused_is c.args.reply c.in-Misused.symbol c.in-Misused.found c.in-Misused.kept c.in-Misused.is) c.put_misused.ensures

pub returns-in-Full : goal.returns-in-Full
returns-in-Full g c =
    subst (λ t. Sends c.put_counts-in-Full.result t (g.K.Sink.shown c.args.sink.now) ((g.K.Sink.shown c.put_counts-in-Full.new.sink)))
    (full_text c.args.reply c.in-Full.needed c.in-Full.limit c.in-Full.is) c.put_counts-in-Full.ensures

pub returns-in-Unknown : goal.returns-in-Unknown
unfolding closed_line
returns-in-Unknown g c =
    subst (λ t. Sends c.put_named-in-Unknown.result t (g.K.Sink.shown c.args.sink.now) ((g.K.Sink.shown c.put_named-in-Unknown.new.sink))) (ap closed_line (sym c.in-Unknown.is)) c.put_named-in-Unknown.ensures

pub returns-in-Sample : goal.returns-in-Sample
returns-in-Sample g c =
    subst (λ t. Sends c.put_three.result t (g.K.Sink.shown c.args.sink.now) (g.K.Sink.shown c.put_three.new.sink))
    (sample_reported c.args.reply c.in-Sample.clauses c.in-Sample.entries c.in-Sample.sum c.in-Sample.is) c.put_three.ensures

pub returns-in-Explained : goal.returns-in-Explained
returns-in-Explained g c =
    subst (λ t. Sends c.put_three-in-Explained.result t (g.K.Sink.shown c.args.sink.now) (g.K.Sink.shown c.put_three-in-Explained.new.sink))
    (explained_reported c.args.reply c.in-Explained.explained c.in-Explained.is) c.put_three-in-Explained.ensures
