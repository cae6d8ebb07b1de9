use Rattle.std.proofs.Common.{ap}
use Rattle.pth_outside.specs.Reading.{Reader}
use Rattle.pth_outside.proofs.FeedLemmas.{found_feed, no_feed, feeds_ahead}
use Rattle.pth_outside.proofs.line_reader.LineReader.feed.Goals as goal

pub returns-clause-found : goal.returns-clause-found
returns-clause-found c =
    let inside = c.self.inside in
    found_feed c.args.self.now.ahead c.next.result c.memchr_iter.result c.next.new.self
    (feeds_ahead inside.buffer.items c.deref.result.now c.args.self.now.ahead c.memchr_iter.result inside.start inside.end
    c.memchr_iter.ensures.value c.deref.ensures.value (ap (λ (r : Reader). r.ahead) c.self.view_is)) c.next.ensures.steps

pub returns-clause-none : goal.returns-clause-none
returns-clause-none c =
    let inside = c.self.inside in
    no_feed c.args.self.now.ahead c.next.result c.memchr_iter.result c.next.new.self
    (feeds_ahead inside.buffer.items c.deref.result.now c.args.self.now.ahead c.memchr_iter.result inside.start inside.end
    c.memchr_iter.ensures.value c.deref.ensures.value (ap (λ (r : Reader). r.ahead) c.self.view_is)) c.next.ensures.steps
